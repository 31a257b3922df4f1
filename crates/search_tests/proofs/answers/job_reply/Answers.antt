use Rattle.std.proofs.Common.{sym, subst}
use Rattle.geo_base.specs.Job.{Fits}
use Rattle.phrase_match.specs.Job.{cells_in}
use Rattle.phrase_match.specs.PlainRows.{PlainRowsView}
use Rattle.search_tests.proofs.answers.job_reply.Goals as goal

pub answer_job-requires-clause-fits : goal.answer_job-requires-clause-fits
answer_job-requires-clause-fits g c =
    subst (λ (r : PlainRowsView). Fits c.in-Ok.job (cells_in r.generation r.query)) (sym c.new-rows.ensures)
    (c.job_is_right.ensures.fits c.args.generation.now c.args.query.now c.in-Ok.job c.number-number.ensures.is c.tokens-tokens.ensures.is c.in-Ok.ensures.job)
