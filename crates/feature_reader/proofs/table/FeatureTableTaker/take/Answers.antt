use Rattle.std.proofs.Common.{subst, ◌≡◌, ◌∙◌, map, sym, ap, if◌then◌else◌, is_some, Ok}
use Rattle.std.proofs.lemmas.List.Elements.{recursion_from_All, All-from_recursion}
use Rattle.std.specs.BTreeMap as tree
use Rattle.feature_reader.specs.declared.taker.Taken.{Taken}
use Rattle.feature_reader.specs.declared.taker.Taken.TheVariants.{New, Changed}
use Rattle.feature_reader.specs.Table.{Table, IsWithinLimits, entry_of, stands, rows, with_feature, put_answer, after_put}
use Rattle.feature_reader.proofs.Tables.{AtIds, put_is, stands_is, at_ids_insert, place_at, place_of, place_cmp}
use Rattle.feature_reader.proofs.table.FeatureTableTaker.take.Goals as goal

at_ids : (c : goal.After-instead_of) → AtIds c.self.inside.features.entries
at_ids c = recursion_from_All (λ e. e.0.id ≡ e.1.id) c.self.inside.features.entries c.self.invariant.0

-- what the insertion leaves
entries_are : (c : goal.After-instead_of) → c.insert.new.self.entries ≡ tree.insert_entry place_cmp c.self.inside.features.entries (place_of c.args.layer c.args.f) c.args.f
entries_are c = c.in_ok-before.ensures.entries ∙ ap (λ id. tree.insert_entry place_cmp c.self.inside.features.entries (place_at c.args.layer id) c.args.f) c.id.ensures.value

table_is : (c : goal.After-instead_of) → map entry_of c.insert.new.self.entries ≡ with_feature c.args.self.now c.args.layer c.args.f
table_is c =
    ap (map entry_of) (entries_are c)
    ∙ (put_is c.args.layer c.args.f c.self.inside.features.entries (at_ids c) c.in_ok-before.ensures.was_ordered
    ∙ ap (λ (t : Table). with_feature t c.args.layer c.args.f) c.self.view_is)

-- what the put answers
answer_is : (c : goal.After-instead_of) → put_answer c.args.self.now c.args.layer c.args.f ≡ Ok c.instead_of.result
answer_is c =
    let found : is_some c.in_ok-before.before ≡ stands c.args.self.now c.args.layer c.args.f.id = rw (c.in_ok-before.ensures.old, c.id.ensures.value, ← c.self.view_is) (sym (stands_is (place_of c.args.layer c.args.f) c.self.inside.features.entries (at_ids c))) in
    let answer : c.instead_of.result ≡ (if stands c.args.self.now c.args.layer c.args.f.id then Changed else New) = c.instead_of.ensures ∙ ap (λ b. if b then Changed else New) found in
    c.in-Ok.ensures.answer ∙ ap (λ (taken : Taken). Ok taken) (sym answer)

pub invariant_of-self-2 : goal.invariant_of-self-2
invariant_of-self-2 c = (
  All-from_recursion (λ e. e.0.id ≡ e.1.id) c.insert.new.self.entries (subst AtIds (sym (entries_are c)) (at_ids_insert c.args.layer c.args.f c.self.inside.features.entries (at_ids c))),
  c.in-Ok.ensures.value ∙ ap rows (sym (table_is c)),
  subst IsWithinLimits (sym (table_is c)) c.in-Ok.ensures.limits,
)

pub returns-clause-ok : goal.returns-clause-ok
returns-clause-ok c = (answer_is c, table_is c ∙ sym (ap (after_put c.args.self.now c.args.layer c.args.f) (answer_is c)))
