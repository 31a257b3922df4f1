use Rattle.std.proofs.Common.{◌≡◌, ◌∙◌, not, sym, ap, arith, Some, None}
use Rattle.std.specs.Map.{lookup}
use Rattle.std.specs.BTreeMap as tree
use Rattle.std.proofs.lemmas.List.Elements.{recursion_from_All}
use Rattle.std.proofs.lemmas.List.{length-map}
use Rattle.feature_reader.specs.Table.{Table, entry_of, is_one_too_many}
use Rattle.feature_reader.proofs.Tables.{place_cmp, place_at}
use Rattle.feature_reader.proofs.Rows.{rows_found, rows_absent, one_too_many, found_one, has_place, room_found, room_left}
use Rattle.feature_reader.proofs.table.FeatureTable.rows_at.Goals as goal

pub returns-in-Some-clause-none : goal.returns-in-Some-clause-none
returns-in-Some-clause-none c =
    let es = c.self.inside.features.entries in
    let ids = recursion_from_All (λ e. e.0.id ≡ e.1.id) es c.self.invariant.0 in
    let found : lookup (tree.is_at (place_cmp (place_at c.args.layer c.args.id))) es ≡ Some c.in-Some.f.now = sym c.in-Some.ensures.value in
    sym (ap not (ap (λ (t : Table). is_one_too_many t c.args.layer c.args.id) (sym c.self.view_is) ∙ found_one (place_at c.args.layer c.args.id) es c.in-Some.f.now ids found))

pub returns-in-Some-clause-rows : goal.returns-in-Some-clause-rows
returns-in-Some-clause-rows c =
    let es = c.self.inside.features.entries in
    let ids = recursion_from_All (λ e. e.0.id ≡ e.1.id) es c.self.invariant.0 in
    let found : lookup (tree.is_at (place_cmp (place_at c.args.layer c.args.id))) es ≡ Some c.in-Some.f.now = sym c.in-Some.ensures.value in
    rw (c.rows_of.ensures.value, ← c.self.view_is) (rows_found (place_at c.args.layer c.args.id) es c.in-Some.f.now ids c.len-features.ensures.ordered found)

pub returns-in-Some-clause-room : goal.returns-in-Some-clause-room
returns-in-Some-clause-room c _ =
    let es = c.self.inside.features.entries in
    let ids = recursion_from_All (λ e. e.0.id ≡ e.1.id) es c.self.invariant.0 in
    let found : lookup (tree.is_at (place_cmp (place_at c.args.layer c.args.id))) es ≡ Some c.in-Some.f.now = sym c.in-Some.ensures.value in
    rw (← c.self.view_is) (room_found (place_at c.args.layer c.args.id) es c.in-Some.f.now ids c.len-features.ensures.ordered found c.self.invariant.2.0)

pub returns-in-None-clause-none : goal.returns-in-None-clause-none
returns-in-None-clause-none c =
    let es = c.self.inside.features.entries in
    let ids = recursion_from_All (λ e. e.0.id ≡ e.1.id) es c.self.invariant.0 in
    let absent : lookup (tree.is_at (place_cmp (place_at c.args.layer c.args.id))) es ≡ None = sym c.in-None.ensures.value in
    sym (ap not (ap (λ (t : Table). is_one_too_many t c.args.layer c.args.id) (sym c.self.view_is) ∙ one_too_many (place_at c.args.layer c.args.id) es ids absent (omega (arith, length-map es entry_of, c.len-features.ensures.len))))

pub returns-in-None-2-clause-none : goal.returns-in-None-2-clause-none
returns-in-None-2-clause-none c =
    let es = c.self.inside.features.entries in
    let ids = recursion_from_All (λ e. e.0.id ≡ e.1.id) es c.self.invariant.0 in
    let absent : lookup (tree.is_at (place_cmp (place_at c.args.layer c.args.id))) es ≡ None = sym c.in-None-2.ensures.value in
    sym (ap not (ap (λ (t : Table). is_one_too_many t c.args.layer c.args.id) (sym c.self.view_is) ∙ has_place (place_at c.args.layer c.args.id) es ids absent (omega (arith, length-map es entry_of, c.len-features.ensures.len))))

pub returns-in-None-2-clause-rows : goal.returns-in-None-2-clause-rows
returns-in-None-2-clause-rows c =
    let es = c.self.inside.features.entries in
    let ids = recursion_from_All (λ e. e.0.id ≡ e.1.id) es c.self.invariant.0 in
    let absent : lookup (tree.is_at (place_cmp (place_at c.args.layer c.args.id))) es ≡ None = sym c.in-None-2.ensures.value in
    rw (← c.self.view_is) (rows_absent (place_at c.args.layer c.args.id) es ids c.len-features.ensures.ordered absent)

pub returns-in-None-2-clause-room : goal.returns-in-None-2-clause-room
returns-in-None-2-clause-room c _ =
    let es = c.self.inside.features.entries in
    let ids = recursion_from_All (λ e. e.0.id ≡ e.1.id) es c.self.invariant.0 in
    rw (← c.self.view_is) (room_left (place_at c.args.layer c.args.id) es ids c.len-features.ensures.ordered (omega (arith, length-map es entry_of, c.len-features.ensures.len)))
