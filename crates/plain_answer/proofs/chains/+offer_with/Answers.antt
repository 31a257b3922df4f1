use Rattle.std.proofs.Common.{◌≡◌, ◌∙◌, ◌-◌, ◌+◌, ◌<◌, ◌≤◌, ◌++◌, ◌∷◌, [], suc, true, List, length, take, All, filter, sym, ap, subst, arith, rules, append-nil}
use Rattle.std.specs.Prelude.{flat_map}
use Rattle.std.proofs.lemmas.List.{take_all, length-append}
use Rattle.geo_base.specs.Best.{best_of}
use Rattle.geo_base.specs.declared.link.Link.{Link}
use Rattle.geo_base.specs.Job.{compat_of}
use Rattle.geo_base.specs.Link.{admits_below, stacks}
use Rattle.geo_base.specs.Order.{context_cmp, same_target}
use Rattle.plain_answer.specs.Offered.{with_more}
use Rattle.plain_answer.proofs.Admitted.{kept, admitted_by_all}
use Rattle.plain_answer.proofs.Offers.{offered_more, full, gone_on, goes_on}
use Rattle.plain_answer.proofs.chains.+offer_with.Goals as goal

pub loop-link-init : goal.loop-link-init
loop-link-init t c = c.offer.ensures ∙ ap (best_of context_cmp same_target 40) (sym (append-nil (c.args.top.now ++ c.args.context.now ∷ [])))

pub returns-else-len-lt16 : goal.returns-else-len-lt16
returns-else-len-lt16 t c =
    let none : 16 - length c.args.context.now ≡ 0 = search (rules, arith) in
    c.offer.ensures ∙ ap (best_of context_cmp same_target 40) (full (compat_of c.args.stacks.now) c.args.top.now c.args.context.now c.args.below.now (16 - length c.args.context.now) none)

pub returns-after-loop-link : goal.returns-after-loop-link
returns-after-loop-link t c =
    let room : 16 - length c.args.context.now ≡ suc (15 - length c.args.context.now) = search (rules, arith) in
    let done : length c.args.below.now ≤ c.loop-link.link-index = search (rules, arith) in
    let compat = compat_of c.args.stacks.now in
    c.loop-link.invariant
    ∙ ap (best_of context_cmp same_target 40)
    (ap (λ (ls : List Link). (c.args.top.now ++ c.args.context.now ∷ []) ++ flat_map (λ a. with_more compat (15 - length c.args.context.now) (c.args.context.now ++ a ∷ []) (filter (stacks compat a) c.args.below.now)) ls) (take_all c.loop-link.link-index c.args.below.now done)
    ∙ gone_on compat c.args.top.now c.args.context.now c.args.below.now (16 - length c.args.context.now) (15 - length c.args.context.now) room)

pub offer_with-requires : goal.offer_with-requires
offer_with-requires t c =
    let longer : length c.push.new.self ≡ length c.args.context.now + 1 = ap (length {A = Link}) c.push.ensures ∙ length-append c.args.context.now (c.link-item.result ∷ []) in
    let rest : c.deref.result.now ≡ filter (stacks (compat_of c.args.stacks.now) c.link-item.result) c.args.below.now = search rules in (
      omega (arith, longer, c.if-len-lt16.true, c.len.ensures.value),
      (
        kept (λ l. l.layer < 16) (compat_of c.args.stacks.now) c.link-item.result c.args.below.now c.deref.result.now rest c.requires.layers,
        subst (All (λ l. All (λ a. admits_below a l ≡ true) c.push.new.self)) (sym rest) (admitted_by_all (compat_of c.args.stacks.now) c.args.context.now c.push.new.self c.args.below.now c.link-item.result c.push.ensures c.requires.admitted),
      ),
    )

pub loop-link-preserved : goal.loop-link-preserved
loop-link-preserved t c =
    let compat = compat_of c.args.stacks.now in
    let link = c.link-item.result in
    let within : c.loop-link.link-index < length c.args.below.now = search (rules, arith) in
    let rest : c.deref.result.now ≡ filter (stacks compat link) c.args.below.now = search rules in
    let longer : length c.push.new.self ≡ length c.args.context.now + 1 = ap (length {A = Link}) c.push.ensures ∙ length-append c.args.context.now (link ∷ []) in
    let room : 16 - length c.push.new.self ≡ 15 - length c.args.context.now = omega (arith, longer) in
    let base = (c.args.top.now ++ c.args.context.now ∷ []) ++ flat_map (λ a. with_more compat (15 - length c.args.context.now) (c.args.context.now ++ a ∷ []) (filter (stacks compat a) c.args.below.now)) (take c.loop-link.link-index c.args.below.now) in
    c.in_ok-offer_with.ensures
    ∙ (offered_more c.loop-link.top base (with_more compat (16 - length c.push.new.self) c.push.new.self c.deref.result.now) c.loop-link.invariant
    ∙ ap (best_of context_cmp same_target 40)
    (ap (λ (x : List Link). base ++ with_more compat (16 - length c.push.new.self) x c.deref.result.now) c.push.ensures
    ∙ (ap (λ (x : List Link). base ++ with_more compat (16 - length c.push.new.self) (c.args.context.now ++ link ∷ []) x) rest
    ∙ goes_on compat (c.args.top.now ++ c.args.context.now ∷ []) c.args.context.now c.args.below.now (15 - length c.args.context.now) (16 - length c.push.new.self) c.loop-link.link-index link link room within c.link-item.is)))
