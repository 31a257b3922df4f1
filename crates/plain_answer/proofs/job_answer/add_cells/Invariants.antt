use Rattle.std.proofs.Common.{◌≡◌, ◌++◌, take, map}
use Rattle.geo_base.specs.Job.{cell_link}
use Rattle.plain_answer.proofs.job_answer.add_cells.Given as goal

-- the links of the cells so far
abbrev pub invariant-loop-cell : goal.invariant-loop-cell
invariant-loop-cell l = l.links.items ≡ l.fn.links.items ++ map (cell_link l.piece) (take l.cell-index l.cells)
