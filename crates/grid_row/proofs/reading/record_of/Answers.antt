use Rattle.std.proofs.Common.{◌≡◌, ◌∙◌, ◌^◌, Ok, Err, sym, ap, subst, arith, List, ℕ}
use Rattle.std.proofs.lemmas.Result.{err_from_is_err_and}
use Rattle.geo_base.specs.declared.refusal.Refused.TheVariants as refused
use Rattle.grid_row.specs.declared.fault.RowFault.{RowFault}
use Rattle.grid_row.specs.Reading.{rows_at}
use Rattle.grid_row.specs.Kept.{rows_behind}
use Rattle.grid_row.proofs.RowSteps.{nothing_behind}
use Rattle.grid_row.proofs.Records.{set_faults, count_faults, short_comes_first, count_comes_first, of_parts, record_of, record_takes}
use Rattle.grid_row.proofs.reading.record_of.Goals as goal

pub returns-in_err-rest-clause-outright : goal.returns-in_err-rest-clause-outright
returns-in_err-rest-clause-outright c e =
    absurd (count_comes_first c.args.bytes.now c.in_ok-bits.bits c.in_ok-bits.rest.now c.in_ok-count.count c.in_ok-count.rest.now (sym c.in_ok-bits.ensures) (sym c.in_ok-count.ensures.value) e)

pub returns-in_err-bits-clause-short : goal.returns-in_err-bits-clause-short
returns-in_err-bits-clause-short c less =
    let p = err_from_is_err_and c.from_residual.result c.from_residual.ensures.1 in
    rw (p.1, p.2) (ap (λ (f : RowFault). Err (refused.Fault f)) (set_faults c.args.bytes.now c.in_err-bits.field-0.0 (sym c.in_err-bits.ensures)))

pub returns-in_err-count-clause-short : goal.returns-in_err-count-clause-short
returns-in_err-count-clause-short c less =
    let p = err_from_is_err_and c.from_residual-in_err-count.result c.from_residual-in_err-count.ensures.1 in
    rw (p.1, p.2) (ap (λ (f : RowFault). Err (refused.Fault f)) (count_faults c.args.bytes.now c.in_ok-bits.bits c.in_ok-bits.rest.now c.in_err-count.field-0.0 (λ i. omega (arith, c.type_inv.bytes i)) (sym c.in_ok-bits.ensures) (sym c.in_err-count.ensures.value) less))

pub returns-in_err-rest-clause-short : goal.returns-in_err-rest-clause-short
returns-in_err-rest-clause-short c less = absurd (short_comes_first c.args.bytes.now c.in_ok-bits.bits c.in_ok-bits.rest.now c.in_ok-count.count c.in_ok-count.rest.now (λ i. omega (arith, c.type_inv.bytes i)) (sym c.in_ok-bits.ensures) (sym c.in_ok-count.ensures.value) less)

pub returns-clause-short : goal.returns-clause-short
returns-clause-short c less = absurd (short_comes_first c.args.bytes.now c.in_ok-bits.bits c.in_ok-bits.rest.now c.in_ok-count.count c.in_ok-count.rest.now (λ i. omega (arith, c.type_inv.bytes i)) (sym c.in_ok-bits.ensures) (sym c.in_ok-count.ensures.value) less)

pub invariant_of-result : goal.invariant_of-result
invariant_of-result c =
    let read : rows_behind c.new-list.result.items (rows_at c.in_ok-count.count (2 ^ 64) c.in_ok-count.rest.now) ≡ Ok (c.read_rows.new.rows.items, c.in_ok-rest.rest.now) = c.in_ok-rest.ensures.ok in
    let alone = sym (nothing_behind (rows_at c.in_ok-count.count (2 ^ 64) c.in_ok-count.rest.now)) ∙ subst (λ (old : List ℕ). rows_behind old (rows_at c.in_ok-count.count (2 ^ 64) c.in_ok-count.rest.now) ≡ Ok (c.read_rows.new.rows.items, c.in_ok-rest.rest.now)) c.new-list.ensures.items read in
    let whole = of_parts c.args.bytes.now c.in_ok-bits.bits c.in_ok-bits.rest.now c.in_ok-count.count c.in_ok-count.rest.now c.read_rows.new.rows.items c.in_ok-rest.rest.now (sym c.in_ok-bits.ensures) (sym c.in_ok-count.ensures.value) alone in
    (record_takes c.args.bytes.now (record_of c.in_ok-bits.bits c.read_rows.new.rows.items, c.in_ok-rest.rest.now) (λ i. omega (arith, c.type_inv.bytes i)) whole).1.rows
