use Rattle.std.proofs.Common.{rules, ℕ, ◌≡◌, ◌<◌, List, length, Err, ◌∙◌, sym, ap, subst, inl, arith}
use Rattle.std.proofs.lemmas.Result.{err_from_is_err_and}
use Rattle.grid_row.specs.declared.record.Record.{Record}
use Rattle.geo_base.specs.declared.refusal.Refused.{Refused}
use Rattle.geo_base.specs.declared.refusal.Refused.TheVariants as refused
use Rattle.grid_row.specs.declared.fault.RowFault.{RowFault}
use Rattle.grid_row.specs.declared.fault.RowFault.TheVariants.{Short, Count}
use Rattle.grid_row.specs.Reading.{record_at, decoding}
use Rattle.grid_row.specs.Kept.{records_behind}
use Rattle.grid_row.proofs.Records.{record_takes}
use Rattle.grid_row.proofs.ListSteps.{list_goes_on, list_ends, list_is_done, less_left, first_on, still_all, still_short, no_bytes}
use Rattle.grid_row.proofs.KeptFacts.{is_refusal}
use Rattle.grid_row.proofs.decoding.records_of.Goals as goal

pub returns-in_err-rest-clause-gives : goal.returns-in_err-rest-clause-gives
returns-in_err-rest-clause-gives c =
    let p = err_from_is_err_and c.from_residual.result c.from_residual.ensures.1 in
    let some : 0 < length c.loop-rest.rest.now = search rules in
    rw (p.1, p.2) (list_ends c.in_err-rest.field-0.0 c.loop-rest.list c.loop-rest.rest.now (records_behind c.args.list (decoding c.args.bytes.now)) c.loop-rest.invariant.bytes some c.in_err-rest.ensures.err c.loop-rest.invariant.read)

pub loop-rest-smaller : goal.loop-rest-smaller
loop-rest-smaller c =
    let found = c.in_ok-rest.ensures.ok in
    less_left c.loop-rest.rest.now found.0 c.in_ok-rest.rest.now c.loop-rest.invariant.bytes found.1

pub loop-rest-preserved : goal.loop-rest-preserved
loop-rest-preserved c =
    let some : 0 < length c.loop-rest.rest.now = search rules in
    let found = c.in_ok-rest.ensures.ok in
    let t = record_takes c.loop-rest.rest.now (found.0, c.in_ok-rest.rest.now) c.loop-rest.invariant.bytes found.1 in
    record {
      read = subst (λ (list : List Record). records_behind list (decoding c.in_ok-rest.rest.now) ≡ records_behind c.args.list (decoding c.args.bytes.now)) (sym found.2)
          (list_goes_on c.loop-rest.list c.loop-rest.rest.now found.0 c.in_ok-rest.rest.now (records_behind c.args.list (decoding c.args.bytes.now)) c.loop-rest.invariant.bytes some found.1 c.loop-rest.invariant.read);
      bytes = t.0.rest_fits;
      first = inl (first_on c.args.bytes.now c.loop-rest.rest.now (found.0, c.in_ok-rest.rest.now) found.1 c.loop-rest.invariant.first);
    }

pub returns-clause-gives : goal.returns-clause-gives
returns-clause-gives c =
    let none : length c.loop-rest.rest.now ≡ 0 = search rules in
    list_is_done c.loop-rest.list c.loop-rest.rest.now (records_behind c.args.list (decoding c.args.bytes.now)) none c.loop-rest.invariant.read

pub returns-in_err-rest-clause-short : goal.returns-in_err-rest-clause-short
returns-in_err-rest-clause-short c some less =
    let p = err_from_is_err_and c.from_residual.result c.from_residual.ensures.1 in
    let same = still_short c.args.bytes.now c.loop-rest.rest.now (λ i. omega (arith, c.type_inv.bytes i)) less c.loop-rest.invariant.first in
    rw (p.1, p.2) (ap (λ (e : Refused RowFault). Err e) (is_refusal c.in_err-rest.field-0.0 (refused.Fault Short) (c.in_err-rest.ensures.short (rw same less))))

pub returns-in_err-rest-clause-outright : goal.returns-in_err-rest-clause-outright
returns-in_err-rest-clause-outright c e =
    let p = err_from_is_err_and c.from_residual.result c.from_residual.ensures.1 in
    let same = still_all c.args.bytes.now c.loop-rest.rest.now Count e c.loop-rest.invariant.first in
    rw (p.1, p.2) (ap (λ (e : Refused RowFault). Err e) (is_refusal c.in_err-rest.field-0.0 (refused.Fault Count) (c.in_err-rest.ensures.outright (ap record_at same ∙ e))))

pub returns-clause-short : goal.returns-clause-short
returns-clause-short c some less =
    let none : length c.loop-rest.rest.now ≡ 0 = search rules in
    let same = still_short c.args.bytes.now c.loop-rest.rest.now (λ i. omega (arith, c.type_inv.bytes i)) less c.loop-rest.invariant.first in
    absurd (omega (arith, none, some, ap (length {A = ℕ}) same))

pub returns-clause-outright : goal.returns-clause-outright
returns-clause-outright c e =
    let none : length c.loop-rest.rest.now ≡ 0 = search rules in
    let same = still_all c.args.bytes.now c.loop-rest.rest.now Count e c.loop-rest.invariant.first in
    absurd (no_bytes c.loop-rest.rest.now none (ap record_at same ∙ e))
