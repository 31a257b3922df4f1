use Rattle.std.proofs.Common.{arith}
use Rattle.grid_row.proofs.KeptFacts.{start_is}
use Rattle.grid_row.proofs.row_list.start_of.Goals as goal

pub returns : goal.returns
returns c = start_is 0 c.args.ends.now c.args.place _ (omega arith) c.requires
