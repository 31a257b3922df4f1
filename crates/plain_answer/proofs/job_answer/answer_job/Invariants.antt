use Rattle.std.proofs.Common.{◌≡◌, ◌++◌, drop}
use Rattle.geo_base.specs.Job.{links_of}
use Rattle.plain_answer.proofs.job_answer.answer_job.Given as goal

-- the links so far, and those of the pieces that are left; what gives the cells is as before
abbrev pub invariant-loop-number : goal.invariant-loop-number
invariant-loop-number g l = record {
  links : l.links.items ++ links_of (drop l.number l.job.pieces) (drop l.number (g.R.Rows.cells l.fn.rows)) ≡ links_of l.job.pieces (g.R.Rows.cells l.fn.rows);
  same_pieces : g.R.Rows.pieces l.rows ≡ g.R.Rows.pieces l.fn.rows;
  same_cells : g.R.Rows.cells l.rows ≡ g.R.Rows.cells l.fn.rows;
  same_origin : g.R.Rows.origin l.rows ≡ g.R.Rows.origin l.fn.rows;
}
