use Rattle.std.proofs.Common.{◌≡◌, ◌∙◌, ◌++◌, ◌∷◌, [], ◌^◌, Ok, Err, sym, ap, length, ℕ, List, arith}
use Rattle.grid_row.specs.declared.record.Record.{Record}
use Rattle.grid_row.specs.declared.row_list.RecordEnd.{RecordEnd}
use Rattle.grid_row.specs.Reading.{rows_at, record_at}
use Rattle.grid_row.specs.declared.fault.RowFault.{RowFault}
use Rattle.grid_row.proofs.Records.{of_parts, record_of, record_takes, set_faults, count_faults, short_comes_first, count_comes_first}
use Rattle.grid_row.proofs.RowSteps.{Behind, behind_ok}
use Rattle.grid_row.proofs.KeptFacts.{Pushed, pushed, CutBack, cut_back}
use Rattle.std.proofs.lemmas.Result.{err_from_is_err_and}
use Rattle.geo_base.specs.declared.refusal.Refused.TheVariants as refused
use Rattle.grid_row.proofs.row_list.RowList.read_front.Goals as goal

pub returns-in_err-bits-clause-short : goal.returns-in_err-bits-clause-short
returns-in_err-bits-clause-short c less =
    let p = err_from_is_err_and c.from_residual.result c.from_residual.ensures.1 in
    rw (p.1, p.2) (ap (λ (f : RowFault). Err (refused.Fault f)) (set_faults c.args.bytes.now c.in_err-bits.field-0.0 (sym c.in_err-bits.ensures)))

pub returns-in_err-count-clause-short : goal.returns-in_err-count-clause-short
returns-in_err-count-clause-short c less =
    let p = err_from_is_err_and c.from_residual-in_err-count.result c.from_residual-in_err-count.ensures.1 in
    rw (p.1, p.2) (ap (λ (f : RowFault). Err (refused.Fault f)) (count_faults c.args.bytes.now c.in_ok-bits.bits c.in_ok-bits.rest.now c.in_err-count.field-0.0 (λ i. omega (arith, c.type_inv.bytes i)) (sym c.in_ok-bits.ensures) (sym c.in_err-count.ensures.value) less))

pub returns-in_err-reserve-clause-short : goal.returns-in_err-reserve-clause-short
returns-in_err-reserve-clause-short c less = absurd (short_comes_first c.args.bytes.now c.in_ok-bits.bits c.in_ok-bits.rest.now c.in_ok-count.count c.in_ok-count.rest.now (λ i. omega (arith, c.type_inv.bytes i)) (sym c.in_ok-bits.ensures) (sym c.in_ok-count.ensures.value) less)

pub returns-in_err-reserve-clause-outright : goal.returns-in_err-reserve-clause-outright
returns-in_err-reserve-clause-outright c e = absurd (count_comes_first c.args.bytes.now c.in_ok-bits.bits c.in_ok-bits.rest.now c.in_ok-count.count c.in_ok-count.rest.now (sym c.in_ok-bits.ensures) (sym c.in_ok-count.ensures.value) e)

pub returns-in-Ok-clause-short : goal.returns-in-Ok-clause-short
returns-in-Ok-clause-short c less = absurd (short_comes_first c.args.bytes.now c.in_ok-bits.bits c.in_ok-bits.rest.now c.in_ok-count.count c.in_ok-count.rest.now (λ i. omega (arith, c.type_inv.bytes i)) (sym c.in_ok-bits.ensures) (sym c.in_ok-count.ensures.value) less)

pub returns-in-Err-clause-short : goal.returns-in-Err-clause-short
returns-in-Err-clause-short c less = absurd (short_comes_first c.args.bytes.now c.in_ok-bits.bits c.in_ok-bits.rest.now c.in_ok-count.count c.in_ok-count.rest.now (λ i. omega (arith, c.type_inv.bytes i)) (sym c.in_ok-bits.ensures) (sym c.in_ok-count.ensures.value) less)

pub returns-in-Err-clause-outright : goal.returns-in-Err-clause-outright
returns-in-Err-clause-outright c e = absurd (count_comes_first c.args.bytes.now c.in_ok-bits.bits c.in_ok-bits.rest.now c.in_ok-count.count c.in_ok-count.rest.now (sym c.in_ok-bits.ensures) (sym c.in_ok-count.ensures.value) e)

read : (c : goal.After-push_reserved) → Behind c.self.inside.rows.items (rows_at c.in_ok-count.count (2 ^ 64) c.in_ok-count.rest.now) c.read_rows.new.rows.items c.in-Ok.rest.now
read c = behind_ok c.self.inside.rows.items (rows_at c.in_ok-count.count (2 ^ 64) c.in_ok-count.rest.now) c.read_rows.new.rows.items c.in-Ok.rest.now c.in-Ok.ensures.ok

whole : (c : goal.After-push_reserved) → record_at c.args.bytes.now ≡ Ok (record_of c.in_ok-bits.bits (read c).more, c.in-Ok.rest.now)
whole c = of_parts c.args.bytes.now c.in_ok-bits.bits c.in_ok-bits.rest.now c.in_ok-count.count c.in_ok-count.rest.now (read c).more c.in-Ok.rest.now (sym c.in_ok-bits.ensures) (sym c.in_ok-count.ensures.value) (read c).is

done : (c : goal.After-push_reserved) → Pushed c.self.inside.ends.items c.self.inside.rows.items c.push_reserved.new.self.items c.read_rows.new.rows.items (record_of c.in_ok-bits.bits (read c).more)
done c =
    pushed c.self.inside.ends.items c.self.inside.rows.items (read c).more c.read_rows.new.rows.items c.push_reserved.new.self.items (record { bits = c.in_ok-bits.bits }) (length c.as_slice-end.result.now) c.self.invariant
    (record_takes c.args.bytes.now (record_of c.in_ok-bits.bits (read c).more, c.in-Ok.rest.now) (λ i. omega (arith, c.type_inv.bytes i)) (whole c)).1
    (read c).all
    (ap (length {A = ℕ}) c.as_slice-end.ensures.value)
    (c.push_reserved.ensures.items ∙ ap (λ (ends : List RecordEnd). ends ++ record { set = record { bits = c.in_ok-bits.bits }; end = length c.as_slice-end.result.now } ∷ []) c.in_ok-reserve.ensures.items)

cut : (c : goal.After-truncate) → CutBack c.self.inside.ends.items c.self.inside.rows.items c.reserve.new.self.items c.truncate.new.self.items
cut c =
    cut_back c.self.inside.ends.items c.reserve.new.self.items c.self.inside.rows.items c.read_rows.new.rows.items c.truncate.new.self.items (length c.as_slice-before.result.now) c.self.invariant
    c.in_ok-reserve.ensures.items c.in-Err.ensures.front (ap (length {A = ℕ}) c.as_slice-before.ensures.value) c.truncate.ensures.items

pub invariant_of-self-in-Ok : goal.invariant_of-self-in-Ok
invariant_of-self-in-Ok c = ((done c).rises, (done c).are)

pub invariant_of-self-in-Err : goal.invariant_of-self-in-Err
invariant_of-self-in-Err c = ((cut c).rises, (cut c).are)

pub returns-in-Ok-clause-ok : goal.returns-in-Ok-clause-ok
returns-in-Ok-clause-ok c = (record_of c.in_ok-bits.bits (read c).more, whole c, (done c).is ∙ ap (λ (rs : List Record). rs ++ record_of c.in_ok-bits.bits (read c).more ∷ []) c.self.view_is)

pub returns-in-Err-clause-kept : goal.returns-in-Err-clause-kept
returns-in-Err-clause-kept c = (cut c).is ∙ c.self.view_is
