use Rattle.std.proofs.Common.{◌^◌, sym}
use Rattle.std.proofs.lemmas.Result.{err_from_is_err_and}
use Rattle.std.proofs.Transfers.{starts_with_trans, starts_with_of_append}
use Rattle.grid_row.specs.Reading.{rows_at}
use Rattle.grid_row.specs.Kept.{rows_behind}
use Rattle.grid_row.proofs.RowSteps.{goes_on, ends, is_done}
use Rattle.grid_row.proofs.reading.read_rows.Goals as goal

pub returns-in_err-row-clause-err : goal.returns-in_err-row-clause-err
returns-in_err-row-clause-err c =
    let p = err_from_is_err_and c.from_residual-in_err-row.result c.from_residual-in_err-row.ensures.1 in
    rw (p.1, p.2) (ends c.in_err-row.field-0.0 c.loop.rows.items c.args.count c.loop.counter c.loop.top c.loop.rest.now c.args.rows.now.items (rows_at c.args.count (2 ^ 64) c.args.bytes.now) c.loop-test.true (sym c.in_err-row.ensures) c.loop.invariant.read)

pub loop-preserved : goal.loop-preserved
loop-preserved c = record {
  read = rw (c.in_ok-push.ensures.items, c.from-top.ensures) (goes_on c.loop.rows.items c.args.count c.loop.counter c.loop.top c.loop.rest.now c.in_ok-row.row c.in_ok-row.after.now (rows_behind c.args.rows.now.items (rows_at c.args.count (2 ^ 64) c.args.bytes.now)) c.loop-test.true (sym c.in_ok-row.ensures) c.loop.invariant.read);
  front = starts_with_trans _ _ _ (starts_with_of_append c.push.new.self.items c.loop.rows.items _ c.in_ok-push.ensures.items) c.loop.invariant.front;
}

pub returns-clause-ok : goal.returns-clause-ok
returns-clause-ok c = is_done c.loop.rows.items c.args.count c.loop.counter c.loop.top c.loop.rest.now (rows_behind c.args.rows.now.items (rows_at c.args.count (2 ^ 64) c.args.bytes.now)) c.loop-test.false c.loop.invariant.read
