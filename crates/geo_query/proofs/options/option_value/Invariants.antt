use Rattle.std.proofs.Common.{◌≡◌, length}
use Rattle.geo_text.specs.Words.{words_of}
use Rattle.geo_query.specs.Query.{option_value}
use Rattle.geo_query.proofs.options.option_value.Given as goal

-- no word so far has the name: the value is that of the rest
abbrev pub invariant-loop-word : goal.invariant-loop-word
invariant-loop-word l = option_value l.name (words_of l.fn.words) ≡ option_value l.name (words_of l.rest)

abbrev pub decreases-loop-word : goal.decreases-loop-word
decreases-loop-word l = length l.rest
