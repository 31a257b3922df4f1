use Rattle.std.proofs.Common.{rules, arith, sym, ap, ◌∙◌, ◌≡◌, ◌+◌, ◌++◌, ◌∷◌, [], slice_index_or}
use Rattle.std.proofs.lemmas.Grind.{common_steps}
use Rattle.geo_text.proofs.Joins.{joined-one, joined-run}
use Rattle.geo_text.proofs.tokens.joined.Goals as goal

pub loop-token-init : goal.loop-token-init
loop-token-init c = search (rules, joined-one)

pub loop-token-preserved : goal.loop-token-preserved
loop-token-preserved c =
    let is : slice_index_or c.args.list.now (c.args.from + 1 + c.loop-token.token-index) c.as_str.result.now ≡ c.as_str.result.now = grind (arith, common_steps) in
    c.in_ok-push-2.ensures.ok
    ∙ ap (λ t. t ++ c.as_str.result.now) (c.in_ok-push.ensures.ok ∙ ap (λ t. t ++ 32 ∷ []) c.loop-token.invariant)
    ∙ sym (joined-run c.args.list.now c.args.from c.loop-token.token-index c.as_str.result.now c.as_str.result.now (grind (arith, common_steps)) is)
