use Rattle.std.proofs.Common.{◌≡◌, ◌∙◌, ◌+◌, not, ap, subst, arith, length, false, ℕ, refl}
use Rattle.feature_reader.specs.Table.{without, rows, is_one_too_many}
use Rattle.feature_reader.proofs.Rows.{rows_after, length-inserted, too_many_rows, is_taken, not_true}
use Rattle.feature_reader.proofs.table.FeatureTable.rows_with.Goals as goal

pub returns-then-rows-gt-MOST_ROWS-clause-fault : goal.returns-then-rows-gt-MOST_ROWS-clause-fault
returns-then-rows-gt-MOST_ROWS-clause-fault c =
    let isnt : is_one_too_many c.args.self.now c.args.layer c.args.f.now.id ≡ false = not_true _ (c.in-Some.ensures.none ∙ ap (λ (id : ℕ). not (is_one_too_many c.args.self.now c.args.layer id)) c.id.ensures.value) in
    let left : rows (without c.args.self.now c.args.layer c.args.f.now.id) + c.in-Some.before ≡ rows c.args.self.now = subst (λ (id : ℕ). rows (without c.args.self.now c.args.layer id) + c.in-Some.before ≡ rows c.args.self.now) c.id.ensures.value c.in-Some.ensures.rows in
    let after = rows_after c.args.self.now c.args.layer c.args.f.now c.in-Some.before c.from.result left (c.from.ensures ∙ c.self.invariant.1 ∙ ap rows c.self.view_is) in
    too_many_rows c.args.self.now c.args.layer c.args.f.now isnt (omega (arith, after, c.rows_of.ensures.value, c.if-rows-gt-MOST_ROWS.true))

pub returns-clause-value : goal.returns-clause-value
returns-clause-value c =
    let left : rows (without c.args.self.now c.args.layer c.args.f.now.id) + c.in-Some.before ≡ rows c.args.self.now = subst (λ (id : ℕ). rows (without c.args.self.now c.args.layer id) + c.in-Some.before ≡ rows c.args.self.now) c.id.ensures.value c.in-Some.ensures.rows in
    rw c.rows_of.ensures.value (rows_after c.args.self.now c.args.layer c.args.f.now c.in-Some.before c.from.result left (c.from.ensures ∙ c.self.invariant.1 ∙ ap rows c.self.view_is))

pub returns-clause-limits : goal.returns-clause-limits
returns-clause-limits c =
    let left : rows (without c.args.self.now c.args.layer c.args.f.now.id) + c.in-Some.before ≡ rows c.args.self.now = subst (λ (id : ℕ). rows (without c.args.self.now c.args.layer id) + c.in-Some.before ≡ rows c.args.self.now) c.id.ensures.value c.in-Some.ensures.rows in
    let after = rows_after c.args.self.now c.args.layer c.args.f.now c.in-Some.before c.from.result left (c.from.ensures ∙ c.self.invariant.1 ∙ ap rows c.self.view_is) in
    let room = c.in-Some.ensures.room refl in
    let longer = length-inserted c.args.layer c.args.f.now (without c.args.self.now c.args.layer c.args.f.now.id) in
    let same : length (without c.args.self.now c.args.layer c.id.result) ≡ length (without c.args.self.now c.args.layer c.args.f.now.id) = ap (λ (id : ℕ). length (without c.args.self.now c.args.layer id)) c.id.ensures.value in
    (omega (arith, room, longer, same), omega (arith, after, c.rows_of.ensures.value, c.if-rows-gt-MOST_ROWS.false))

pub returns-clause-answer : goal.returns-clause-answer
returns-clause-answer c =
    let isnt : is_one_too_many c.args.self.now c.args.layer c.args.f.now.id ≡ false = not_true _ (c.in-Some.ensures.none ∙ ap (λ (id : ℕ). not (is_one_too_many c.args.self.now c.args.layer id)) c.id.ensures.value) in
    let left : rows (without c.args.self.now c.args.layer c.args.f.now.id) + c.in-Some.before ≡ rows c.args.self.now = subst (λ (id : ℕ). rows (without c.args.self.now c.args.layer id) + c.in-Some.before ≡ rows c.args.self.now) c.id.ensures.value c.in-Some.ensures.rows in
    let after = rows_after c.args.self.now c.args.layer c.args.f.now c.in-Some.before c.from.result left (c.from.ensures ∙ c.self.invariant.1 ∙ ap rows c.self.view_is) in
    is_taken c.args.self.now c.args.layer c.args.f.now isnt (omega (arith, after, c.rows_of.ensures.value, c.if-rows-gt-MOST_ROWS.false))
