use Rattle.std.proofs.Common.{◌≡◌, ◌∙◌, sym, ap, arith, Some, None, is_some}
use Rattle.std.specs.Map.{lookup}
use Rattle.std.specs.BTreeMap as tree
use Rattle.std.proofs.lemmas.List.Elements.{recursion_from_All}
use Rattle.feature_reader.specs.Table.{Table, stands, without, rows}
use Rattle.feature_reader.proofs.Tables.{place_cmp, place_at, stands_is}
use Rattle.feature_reader.proofs.Rows.{rows_found, removed}
use Rattle.feature_reader.proofs.table.FeatureTable.drop_feature.Goals as goal

pub overflow_cast-self : goal.overflow_cast-self
overflow_cast-self c =
    let es = c.self.inside.features.entries in
    let ids = recursion_from_All (λ e. e.0.id ≡ e.1.id) es c.self.invariant.0 in
    let found : lookup (tree.is_at (place_cmp (place_at c.args.layer c.args.id))) es ≡ Some c.in-Some.f = sym c.in-Some.ensures.value in
    omega (arith, rows_found (place_at c.args.layer c.args.id) es c.in-Some.f ids c.len-features.ensures.ordered found, c.rows_of.ensures.value, c.self.invariant.2.1)

pub overflow_sub-self : goal.overflow_sub-self
overflow_sub-self c =
    let es = c.self.inside.features.entries in
    let ids = recursion_from_All (λ e. e.0.id ≡ e.1.id) es c.self.invariant.0 in
    let found : lookup (tree.is_at (place_cmp (place_at c.args.layer c.args.id))) es ≡ Some c.in-Some.f = sym c.in-Some.ensures.value in
    omega (arith, rows_found (place_at c.args.layer c.args.id) es c.in-Some.f ids c.len-features.ensures.ordered found, c.rows_of.ensures.value, c.self.invariant.1)

pub invariant_of-self : goal.invariant_of-self
invariant_of-self c =
    let es = c.self.inside.features.entries in
    let ids = recursion_from_All (λ e. e.0.id ≡ e.1.id) es c.self.invariant.0 in
    let found : lookup (tree.is_at (place_cmp (place_at c.args.layer c.args.id))) es ≡ Some c.in-Some.f = sym c.in-Some.ensures.value in
    let left = removed (place_at c.args.layer c.args.id) es c.remove.new.self.entries ids c.len-features.ensures.ordered c.self.invariant.2 c.remove.ensures.entries in (
      left.ids,
      omega (arith, rows_found (place_at c.args.layer c.args.id) es c.in-Some.f ids c.len-features.ensures.ordered found, c.rows_of.ensures.value, c.self.invariant.1, ap rows left.table),
      left.limits,
    )

pub returns-in-Some-clause-answer : goal.returns-in-Some-clause-answer
returns-in-Some-clause-answer c =
    let es = c.self.inside.features.entries in
    let ids = recursion_from_All (λ e. e.0.id ≡ e.1.id) es c.self.invariant.0 in
    let found : lookup (tree.is_at (place_cmp (place_at c.args.layer c.args.id))) es ≡ Some c.in-Some.f = sym c.in-Some.ensures.value in
    sym (ap (λ (t : Table). stands t c.args.layer c.args.id) (sym c.self.view_is) ∙ stands_is (place_at c.args.layer c.args.id) es ids ∙ ap is_some found)

pub returns-in-Some-clause-table : goal.returns-in-Some-clause-table
returns-in-Some-clause-table c =
    let es = c.self.inside.features.entries in
    let ids = recursion_from_All (λ e. e.0.id ≡ e.1.id) es c.self.invariant.0 in
    let left = removed (place_at c.args.layer c.args.id) es c.remove.new.self.entries ids c.len-features.ensures.ordered c.self.invariant.2 c.remove.ensures.entries in
    left.table ∙ ap (λ (t : Table). without t c.args.layer c.args.id) c.self.view_is

pub returns-in-None-clause-answer : goal.returns-in-None-clause-answer
returns-in-None-clause-answer c =
    let es = c.self.inside.features.entries in
    let ids = recursion_from_All (λ e. e.0.id ≡ e.1.id) es c.self.invariant.0 in
    let absent : lookup (tree.is_at (place_cmp (place_at c.args.layer c.args.id))) es ≡ None = sym c.in-None.ensures.value in
    sym (ap (λ (t : Table). stands t c.args.layer c.args.id) (sym c.self.view_is) ∙ stands_is (place_at c.args.layer c.args.id) es ids ∙ ap is_some absent)

pub returns-in-None-clause-table : goal.returns-in-None-clause-table
returns-in-None-clause-table c =
    let es = c.self.inside.features.entries in
    let ids = recursion_from_All (λ e. e.0.id ≡ e.1.id) es c.self.invariant.0 in
    let left = removed (place_at c.args.layer c.args.id) es c.remove.new.self.entries ids c.len-features.ensures.ordered c.self.invariant.2 c.remove.ensures.entries in
    left.table ∙ ap (λ (t : Table). without t c.args.layer c.args.id) c.self.view_is
