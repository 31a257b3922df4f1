use Rattle.grid_row.proofs.Lengths.{spellings_within}
use Rattle.grid_row.proofs.laws.spellings_fit.Goals as goal

pub returns : goal.returns
returns c = spellings_within
