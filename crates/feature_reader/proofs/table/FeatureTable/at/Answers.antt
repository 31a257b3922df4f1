use Rattle.std.proofs.Common.{subst, ◌≡◌, ◌∙◌, sym, ap}
use Rattle.std.specs.Prelude.{option_map, slice_get}
use Rattle.std.specs.Map.Iter.{deref_pair}
use Rattle.std.proofs.lemmas.Iterator.Consumers.{nth_from_yields_List, YieldsList-from_rest}
use Rattle.std.proofs.lemmas.List.Elements.{recursion_from_All}
use Rattle.std.proofs.lemmas.Option.{slice_get-map}
use Rattle.feature_reader.specs.Table.{IsTable, entry_of}
use Rattle.feature_reader.proofs.Tables.{is_table}
use Rattle.feature_reader.proofs.table.FeatureTable.at.Goals as goal

pub returns-clause-value : goal.returns-clause-value
returns-clause-value c =
    let found : option_map deref_pair c.nth.result ≡ slice_get c.self.inside.features.entries c.args.n = nth_from_yields_List c.nth.result _ c.args.n c.nth.ensures.ran (YieldsList-from_rest c.self.inside.features.entries c.iter.ensures.rest) in
    ap (λ table. slice_get table c.args.n) (sym c.self.view_is)
    ∙ (slice_get-map entry_of c.self.inside.features.entries c.args.n
    ∙ ap (option_map entry_of) (sym found ∙ ap (option_map deref_pair) c.in-Some.is))

pub returns-clause-is : goal.returns-clause-is
returns-clause-is c = subst IsTable c.self.view_is (is_table c.self.inside.features.entries (recursion_from_All (λ e. e.0.id ≡ e.1.id) c.self.inside.features.entries c.self.invariant.0) c.iter.ensures.ordered)
