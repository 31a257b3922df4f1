use Rattle.std.proofs.Common.{subst, ◌≡◌}
use Rattle.std.proofs.lemmas.List.Elements.{recursion_from_All}
use Rattle.feature_reader.specs.Table.{IsTable}
use Rattle.feature_reader.proofs.Tables.{is_table}
use Rattle.feature_reader.proofs.table.FeatureTable.entries.Goals as goal

pub returns-clause-is : goal.returns-clause-is
returns-clause-is c = subst IsTable c.self.view_is (is_table c.self.inside.features.entries (recursion_from_All (λ e. e.0.id ≡ e.1.id) c.self.inside.features.entries c.self.invariant.0) c.iter.ensures.ordered)
