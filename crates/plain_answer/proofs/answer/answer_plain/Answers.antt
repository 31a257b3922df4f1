use Rattle.std.proofs.Common.{◌≡◌, ◌∙◌, ◌<◌, ◌≤◌, All, sym, ap, subst, arith, rules}
use Rattle.std.specs.Prelude.{AllPairs}
use Rattle.geo_base.specs.Answer.{best}
use Rattle.geo_base.specs.Job.{compat_of}
use Rattle.plain_answer.specs.Links.{links}
use Rattle.plain_answer.proofs.Answered.{answered, in_16, best_by_bits}
use Rattle.plain_answer.proofs.Rising.{links_rise}
use Rattle.plain_answer.proofs.answer.answer_plain.Goals as goal

pub best_contexts-requires-clause-layers : goal.best_contexts-requires-clause-layers
best_contexts-requires-clause-layers c =
    let all : c.deref-3.result.now ≡ links c.args.head.now c.args.table.now c.args.query.now = c.deref-3.ensures.value ∙ c.in_ok-links.ensures in
    subst (All (λ l. l.layer < 16)) (sym all) (in_16 c.args.head.now c.args.table.now c.args.query.now c.len-layers.ensures.are.few)

pub best_contexts-requires-clause-rising : goal.best_contexts-requires-clause-rising
best_contexts-requires-clause-rising c =
    let all : c.deref-3.result.now ≡ links c.args.head.now c.args.table.now c.args.query.now = c.deref-3.ensures.value ∙ c.in_ok-links.ensures in
    subst (AllPairs (λ a b. a.layer ≤ b.layer)) (sym all) (links_rise c.args.head.now c.args.table.now c.args.query.now c.len-features.ensures.is)

pub returns-clause-answer : goal.returns-clause-answer
returns-clause-answer c =
    let all : c.deref-3.result.now ≡ links c.args.head.now c.args.table.now c.args.query.now = c.deref-3.ensures.value ∙ c.in_ok-links.ensures in
    answered c.args.head.now c.args.table.now c.args.limit c.args.query.now c.into_answer.result
    (omega (arith, c.count_of-total.ensures, c.if-total-limit.false))
    (search (rules, arith))
    (c.into_answer.ensures.contexts ∙ (c.in_ok-top.ensures ∙ (ap (best (compat_of c.stacks-stacks.result)) all
    ∙ best_by_bits c.args.head.now c.args.table.now c.args.query.now c.stacks-stacks.result c.len-layers.ensures.are.few c.stacks-stacks.ensures)))
