use Rattle.std.proofs.Common.{refl}
use Rattle.grid_row.proofs.laws.worked_rows.Goals as goal

pub returns : goal.returns
returns c = record { city = refl; country = refl; one_column_less = refl }
