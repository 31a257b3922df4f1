use Rattle.std.proofs.Common.{◌≡◌, ◌++◌, map}
use Rattle.feature_reader.specs.Table.{entry_of}
use Rattle.plain_answer.specs.Links.{links}
use Rattle.plain_answer.proofs.links.links_of.Given as goal

-- the links so far, and those of the features that are left
abbrev pub invariant-loop-place : goal.invariant-loop-place
invariant-loop-place l = l.links.items ++ links l.head (map entry_of l.place-iterator) l.query ≡ links l.head l.table l.query
