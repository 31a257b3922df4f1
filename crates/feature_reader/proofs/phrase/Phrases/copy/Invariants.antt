use Rattle.std.proofs.Common.{◌≡◌, take}
use Rattle.feature_reader.proofs.phrase.Phrases.copy.Given as goal

-- the phrases so far
abbrev pub invariant-loop-phrase : goal.invariant-loop-phrase
invariant-loop-phrase l = l.list.items ≡ take l.phrase-index l.phrase-items
