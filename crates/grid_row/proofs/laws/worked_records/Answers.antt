use Rattle.std.proofs.Common.{refl}
use Rattle.grid_row.specs.Reading.{set_at, count_at, row_at, rows_at, record_at, records_at, decoding}
use Rattle.grid_row.proofs.laws.worked_records.Goals as goal

pub returns : goal.returns
unfolding set_at count_at row_at rows_at record_at records_at decoding
returns c = record {
  usa = refl;
  usa_again = refl;
  least = refl;
  both = refl;
  nothing = refl;
  ends = refl;
  ends_in_the_set = refl;
  no_rows = refl;
  too_many_rows = refl;
  equal_rows = refl;
  rising_rows = refl;
}
