use Rattle.std.proofs.lemmas.Result.{err_from_is_err_and}
use Rattle.session_text.proofs.Fronts.{starts_before}
use Rattle.session_text.proofs.write.write_links.Goals as goal

pub returns-in_err-write_link-clause-err : goal.returns-in_err-write_link-clause-err
returns-in_err-write_link-clause-err c =
    let p = err_from_is_err_and c.from_residual.result c.from_residual.ensures.1 in
    rw p.1 (starts_before _ _ _ _ c.loop-link.invariant c.in_err-write_link.ensures.err)
