use Rattle.std.proofs.Common.{◌≡◌, length, get_or, sym, ◌∙◌, subst, ap, is_lt, false, arith}
use Rattle.std.proofs.lemmas.Bool.{not-true}
use Rattle.std.proofs.lemmas.Option.{get_or_from_slice_get}
use Rattle.geo_base.specs.Order.{same_target, context_cmp}
use Rattle.geo_base.proofs.OrderLaws.{context_cmp_total}
use Rattle.geo_base.proofs.AnswerFacts.{same_target_equiv}
use Rattle.top_list.specs.Ranked.{IsRanked}
use Rattle.top_list.proofs.PlacedFacts.{best_with_one, placed_after_last}
use Rattle.top_list.proofs.TopList.leaves_out.Goals as goal

pub returns-then-len-eq40 : goal.returns-then-len-eq40
returns-then-len-eq40 c = λ out.
    let held = c.args.self.now in
    let old : IsRanked held = subst IsRanked c.self.view_is c.self.invariant.0 in
    let last = c.at.result.now in
    let full : length held ≡ 40 = omega (arith, c.if-len-eq40.true, c.len.ensures) in
    let there : last ≡ get_or held 39 last = sym (get_or_from_slice_get held 39 last last c.at.ensures) in
    let order : context_cmp c.args.context.now c.links.result.now ≡ context_cmp c.args.context.now last = ap (context_cmp c.args.context.now) c.links.ensures.value in
    let late : is_lt (context_cmp c.args.context.now last) ≡ false = ap is_lt (sym order) ∙ (ap is_lt (sym c.links_before.ensures) ∙ (sym c.is_lt.ensures ∙ not-true _ out)) in
    best_with_one context_cmp_total same_target_equiv 40 held c.args.context.now old.in_order old.one_each old.few
    ∙ placed_after_last same_target context_cmp_total 39 held c.args.context.now last old.in_order full there late
