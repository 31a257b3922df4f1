use Rattle.std.proofs.Common.{◌≡◌, bytes_eq, length}
use Rattle.std.specs.List.{list_any}
use Rattle.geo_text.specs.Words.{words_of}
use Rattle.geo_query.specs.Query.{name_part}
use Rattle.geo_query.proofs.options.has_name.Given as goal

-- no word so far has the name: one of all has it where one of the rest has it
abbrev pub invariant-loop-word : goal.invariant-loop-word
invariant-loop-word l = list_any (λ word. bytes_eq (name_part word) l.name) (words_of l.fn.words) ≡ list_any (λ word. bytes_eq (name_part word) l.name) (words_of l.rest)

abbrev pub decreases-loop-word : goal.decreases-loop-word
decreases-loop-word l = length l.rest
