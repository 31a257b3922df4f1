use Rattle.std.proofs.Common.{◌≡◌, ◌∙◌, ◌≤◌, map, subst, ap, arith}
use Rattle.std.proofs.lemmas.List.Elements.{recursion_from_All}
use Rattle.feature_reader.specs.Table.{IsTable, features_in, rows, most_rows}
use Rattle.feature_reader.proofs.Tables.{is_table}
use Rattle.feature_reader.proofs.LayerRange.{range_is, some_rows}
use Rattle.feature_reader.proofs.table.FeatureTable.layer.Goals as goal

pub returns-clause-value : goal.returns-clause-value
returns-clause-value c =
    ap (map (λ e. e.1)) (c.range.ensures.between tt)
    ∙ (range_is c.args.layer c.self.inside.features.entries
    ∙ ap (λ table. features_in table c.args.layer) c.self.view_is)

pub returns-clause-is : goal.returns-clause-is
returns-clause-is c = subst IsTable c.self.view_is (is_table c.self.inside.features.entries (recursion_from_All (λ e. e.0.id ≡ e.1.id) c.self.inside.features.entries c.self.invariant.0) c.range.ensures.ordered)

pub returns-clause-few : goal.returns-clause-few
returns-clause-few c =
    let limit : rows c.args.self.now ≤ most_rows = subst (λ table. rows table ≤ most_rows) c.self.view_is c.self.invariant.2.1 in
    omega (arith, some_rows c.args.layer c.args.self.now, limit)
