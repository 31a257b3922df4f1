use Rattle.std.proofs.Common.{◌≡◌, ◌⊎◌, length}
use Rattle.grid_row.specs.Reading.{decoding}
use Rattle.grid_row.specs.Kept.{records_behind}
use Rattle.grid_row.proofs.Fields.{IsBytes}
use Rattle.grid_row.proofs.ListSteps.{BeginsWithRecord}
use Rattle.grid_row.proofs.decoding.records_of.Given as goal

abbrev pub invariant-loop-rest : goal.invariant-loop-rest
invariant-loop-rest l = record {
  -- what was read, and what is still read behind it, is the whole reading
  read : records_behind l.list (decoding l.rest) ≡ records_behind l.fn.list (decoding l.bytes);
  bytes : IsBytes l.rest;
  -- a fault of the first record is found in the first turn
  first : BeginsWithRecord l.bytes ⊎ (l.rest ≡ l.bytes);
}

abbrev pub decreases-loop-rest : goal.decreases-loop-rest
decreases-loop-rest l = length l.rest
