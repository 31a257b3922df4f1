use Rattle.std.proofs.Common.{◌≡◌, ◌∙◌, sym, subst}
use Rattle.std.specs.Prelude.{IfOk, Result}
use Rattle.geo_base.specs.Job.{Fits}
use Rattle.geo_base.specs.declared.refusal.Memory.{Memory}
use Rattle.phrase_match.specs.Job.{cells_in}
use Rattle.phrase_match.specs.PlainRows.{PlainRowsView}
use Rattle.search_tests.proofs.rows.fetches.Goals as goal

pub search_alone-requires-clause-fits : goal.search_alone-requires-clause-fits
search_alone-requires-clause-fits g c =
    let rows : c.expect-rows.result ≡ c.new.result = subst (λ (r : Result PlainRowsView Memory). IfOk r (λ k. k ≡ c.new.result)) c.expect-rows.ensures c.new-in-Ok.ensures in
    subst (λ (r : PlainRowsView). Fits c.in-Ok.job (cells_in r.generation r.query)) (sym (rows ∙ c.new.ensures))
    (c.job_is_right.ensures.fits c.args.generation.now c.args.query.now c.in-Ok.job c.number-number.ensures.is c.tokens-tokens.ensures.is c.in-Ok.ensures.job)
