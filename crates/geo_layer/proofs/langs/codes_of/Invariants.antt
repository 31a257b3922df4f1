use Rattle.std.proofs.Common.{◌≡◌, ◌++◌, length}
use Rattle.geo_text.specs.Words.{words_of}
use Rattle.geo_layer.proofs.langs.codes_of.Given as goal

-- the codes so far and the words that are left
abbrev pub invariant-loop-word : goal.invariant-loop-word
invariant-loop-word l = words_of l.fn.text ≡ l.langs ++ words_of l.rest

abbrev pub decreases-loop-word : goal.decreases-loop-word
decreases-loop-word l = length l.rest
