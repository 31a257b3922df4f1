use Rattle.std.proofs.Common.{◌<◌, ℕ, [], ◌∷◌, ◌++◌, length, get_or, set, take, ap, sym, ◌∙◌, subst, arith}
use Rattle.geo_base.specs.Placed.{at_places}
use Rattle.top_list.specs.Shelf.{IsShelf}
use Rattle.top_list.proofs.ShelfFacts.{same_pushed, shelf_pushed, same_changed}
use Rattle.top_list.proofs.hold.Goals as goal

pub returns-then-count-len-clause-same : goal.returns-then-count-len-clause-same
returns-then-count-len-clause-same c = rw (c.push_reserved.ensures.items, c.push.ensures.items) (same_pushed c.args.list.now.items c.args.order.now.items c.args.count c.args.c.now c.requires.shelf c.len-then-count-len.result)

pub returns-then-count-len-clause-shelf : goal.returns-then-count-len-clause-shelf
returns-then-count-len-clause-shelf c =
    let list = c.args.list.now.items in
    let order = c.args.order.now.items in
    rw (c.push_reserved.ensures.items, c.push.ensures.items)
    (subst (λ (n : ℕ). IsShelf (list ++ c.args.c.now ∷ []) (order ++ n ∷ []) c.args.count) (sym (c.len-then-count-len.ensures ∙ c.args.list.now.ok.0)) (shelf_pushed list order c.args.count c.args.c.now c.requires.shelf))

pub returns-else-count-len-clause-same : goal.returns-else-count-len-clause-same
returns-else-count-len-clause-same c =
    let long : c.args.count < length c.args.order.now.items = omega (arith, c.requires.shelf.there, c.if-count-len.false, c.len.ensures.value) in
    ap (λ places. at_places (set c.args.list.now.items (get_or places c.args.count 0) c.args.c.now) (take c.args.count c.args.order.now.items)) c.deref.ensures.0
    ∙ same_changed c.args.list.now.items c.args.order.now.items c.args.count c.args.c.now c.requires.shelf long
