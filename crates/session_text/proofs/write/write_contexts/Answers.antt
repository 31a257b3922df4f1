use Rattle.std.proofs.Common.{◌∙◌, ap, ◌++◌}
use Rattle.std.proofs.lemmas.Result.{err_from_is_err_and}
use Rattle.session_text.specs.Reply.{context_text}
use Rattle.session_text.proofs.Fronts.{starts_before, member_joins}
use Rattle.session_text.proofs.write.write_contexts.Goals as goal

pub returns-in_err-write_context-clause-err : goal.returns-in_err-write_context-clause-err
returns-in_err-write_context-clause-err c =
    let p = err_from_is_err_and c.from_residual.result c.from_residual.ensures.1 in
    rw p.1 (starts_before _ _ _ _ c.loop-place.invariant c.in_err-write_context.ensures.err)

pub loop-place-preserved : goal.loop-place-preserved
loop-place-preserved c =
    member_joins (context_text c.args.tokens) _ _ _ c.args.contexts.now c.loop-place.place c.at.result.now c.at.ensures c.loop-place.invariant
    (c.in_ok-write_context.ensures.ok ∙ ap (λ links. c.loop-place.out.items ++ context_text c.args.tokens links) c.links.ensures.value)
