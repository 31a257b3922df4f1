use Rattle.std.proofs.Common.{take}
use Rattle.feature_reader.specs.Collected.{AreSeen}
use Rattle.feature_reader.proofs.text_phrases.keys_of.Given as goal

-- the keys so far are those of the phrases so far
abbrev pub invariant-loop-phrase : goal.invariant-loop-phrase
invariant-loop-phrase l = AreSeen l.seen (take l.phrase-index l.phrases)
