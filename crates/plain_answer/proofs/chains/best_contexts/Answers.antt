use Rattle.std.proofs.Common.{◌≡◌, ◌<◌, ◌≤◌, ◌-◌, [], ◌∷◌, true, length, take, drop, filter, All, ◌∙◌, sym, ap, subst, arith, rules}
use Rattle.std.specs.Prelude.{flat_map}
use Rattle.std.proofs.lemmas.List.Elements.{All-take}
use Rattle.geo_base.specs.declared.link.Link.{Link}
use Rattle.geo_base.specs.Best.{best_of}
use Rattle.geo_base.specs.Job.{compat_of}
use Rattle.geo_base.specs.Link.{stacks, admits_below}
use Rattle.geo_base.specs.Order.{context_cmp, same_target}
use Rattle.plain_answer.specs.Offered.{with_more}
use Rattle.plain_answer.proofs.Admitted.{kept, admitted_before, admitted_by_all}
use Rattle.plain_answer.proofs.Offers.{offered_more, one_target_more}
use Rattle.plain_answer.proofs.chains.best_contexts.Goals as goal

pub offer_with-requires-clause-layers : goal.offer_with-requires-clause-layers
offer_with-requires-clause-layers c =
    let links = c.args.links.now in
    let before = take c.smaller_end-end.result links in
    let rest : c.deref.result.now ≡ filter (stacks (compat_of c.args.stacks.now) c.index-links-i.result) before = search (rules, arith) in
    kept (λ l. l.layer < 16) (compat_of c.args.stacks.now) c.index-links-i.result before c.deref.result.now rest (All-take (λ l. l.layer < 16) c.smaller_end-end.result links c.requires.layers)

pub offer_with-requires-clause-admitted : goal.offer_with-requires-clause-admitted
offer_with-requires-clause-admitted c =
    let before = take c.smaller_end-end.result c.args.links.now in
    let rest : c.deref.result.now ≡ filter (stacks (compat_of c.args.stacks.now) c.index-links-i.result) before = search (rules, arith) in
    subst (All (λ l. All (λ a. admits_below a l ≡ true) c.new-in-loop-i.result)) (sym rest)
    (admitted_by_all (compat_of c.args.stacks.now) [] c.new-in-loop-i.result before c.index-links-i.result c.new-in-loop-i.ensures (λ k d within j e none. absurd (omega (arith, none))))

pub loop-i-preserved : goal.loop-i-preserved
loop-i-preserved c =
    let compat = compat_of c.args.stacks.now in
    let links = c.args.links.now in
    let link = c.index-links-i.result in
    let end = c.smaller_end-end.result in
    let within : c.loop-i.i < length links = search (rules, arith) in
    let before : c.deref.result.now ≡ filter (stacks compat link) (take end links) = search (rules, arith) in
    let least : All (λ l. link.layer ≤ l.layer) (drop end links) = subst (λ (a : Link). All (λ l. a.layer ≤ l.layer) (drop end links)) (sym c.index-links-i.is) (c.smaller_end-end.ensures.rest link) in
    let rest : c.deref.result.now ≡ filter (stacks compat link) links = before ∙ admitted_before compat link end links least in
    let seen = flat_map (λ a. with_more compat 15 (a ∷ []) (filter (stacks compat a) links)) (take c.loop-i.i links) in
    let more = with_more compat (16 - length c.new-in-loop-i.result) c.new-in-loop-i.result c.deref.result.now in
    record {
      end = omega (arith, c.smaller_end-end.ensures.end);
      offered =
          c.in_ok-offer_with.ensures
          ∙ (offered_more c.loop-i.top seen more c.loop-i.invariant.offered
          ∙ ap (best_of context_cmp same_target 40) (one_target_more compat links c.loop-i.i link c.deref.result.now c.new-in-loop-i.result within c.index-links-i.is c.new-in-loop-i.ensures rest));
    }
