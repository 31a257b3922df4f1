use Rattle.feature_reader.specs.Table.{IsOfHead}
use Rattle.search_tests.proofs.places.table_of.Given as goal

abbrev pub invariant-loop-layer : goal.invariant-loop-layer
invariant-loop-layer g l = IsOfHead l.head l.table

abbrev pub invariant-loop-id : goal.invariant-loop-id
invariant-loop-id g l = IsOfHead l.head l.table
