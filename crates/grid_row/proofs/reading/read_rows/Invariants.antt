use Rattle.std.proofs.Common.{◌≡◌, ◌-◌, ◌^◌}
use Rattle.std.specs.Io.{StartsWith}
use Rattle.grid_row.specs.Reading.{rows_at}
use Rattle.grid_row.specs.Kept.{rows_behind}
use Rattle.grid_row.proofs.reading.read_rows.Given as goal

abbrev pub invariant-loop : goal.invariant-loop
invariant-loop l = record {
  -- what was read, and what is still read behind it, is the whole reading
  read : rows_behind l.rows.items (rows_at (l.count - l.counter) l.top l.rest) ≡ rows_behind l.fn.rows.items (rows_at l.count (2 ^ 64) l.bytes);
  front : StartsWith l.rows.items l.fn.rows.items;
}
