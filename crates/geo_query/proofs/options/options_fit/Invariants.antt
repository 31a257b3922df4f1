use Rattle.std.proofs.Common.{◌≡◌, length}
use Rattle.geo_text.specs.Words.{words_of}
use Rattle.geo_query.specs.Query.{options_fit}
use Rattle.geo_query.proofs.options.options_fit.Given as goal

-- the words so far fit with all others: all words fit where the rest do
abbrev pub invariant-loop-word : goal.invariant-loop-word
invariant-loop-word l = options_fit (words_of l.fn.words) ≡ options_fit (words_of l.rest)

abbrev pub decreases-loop-word : goal.decreases-loop-word
decreases-loop-word l = length l.rest
