use Rattle.std.proofs.Common.{◌≡◌, ◌∙◌, ◌++◌, ◌+◌, ◌≤◌, ◌<◌, List, length, Some, sym, subst}
use Rattle.std.specs.Prelude.{IfOk, OnErr}
use Rattle.geo_layer.specs.Layer.{LayerView}
use Rattle.feature_feed.specs.Drain.{after_items, Gave}
use Rattle.feature_feed.specs.Load.{Load, IsLoadOf, IsAllOf, report_of}
use Rattle.feature_feed.proofs.LoadOf.{loaded}
use Rattle.feature_feed.specs.declared.feed.FeedItem.{FeedItem}
use Rattle.feature_feed.proofs.drain.drain.Goals as goal

pub returns-clause-memory : goal.returns-clause-memory
returns-clause-memory g c l is =
    let before = ((goal.Feed-dyn g (c.args.feed.now.vtable, c.args.feed.now.value)).shows c.args.feed.now.value).left in
    let after = ((goal.Feed-dyn g (c.fill.new.feed.vtable, c.fill.new.feed.value)).shows c.fill.new.feed.value).left in
    let same : c.at.result.now ≡ l = let both : Some c.at.result.now ≡ Some l = sym c.at.ensures.value ∙ is in cc both in
    let counted : List FeedItem → Type 0 = λ all. ((goal.Feed-dyn g (c.fill.new.feed.vtable, c.fill.new.feed.value)).shows c.fill.new.feed.value).given < 18446744073709551615 → ((goal.Feed-dyn g (c.fill.new.feed.vtable, c.fill.new.feed.value)).shows c.fill.new.feed.value).given ≡ ((goal.Feed-dyn g (c.args.feed.now.vtable, c.args.feed.now.value)).shows c.args.feed.now.value).given + length all in
    subst (λ (l : LayerView). OnErr c.fill.result ((gave : List FeedItem) × (more : List FeedItem) × (length more ≤ 1) × Gave before (gave ++ more) after × (g.T.Taker.table c.fill.new.into ≡ after_items l c.args.head.now.langs c.args.layer (g.T.Taker.table c.args.into.now) gave) × counted (gave ++ more))) same c.fill.ensures.memory

pub returns-clause-load : goal.returns-clause-load
returns-clause-load g c l is =
    let before = (goal.Feed-dyn g (c.args.feed.now.vtable, c.args.feed.now.value)).shows c.args.feed.now.value in
    let after = (goal.Feed-dyn g (c.fill.new.feed.vtable, c.fill.new.feed.value)).shows c.fill.new.feed.value in
    let same : c.at.result.now ≡ l = let both : Some c.at.result.now ≡ Some l = sym c.at.ensures.value ∙ is in cc both in
    let e = c.fill.ensures in
    subst (λ (l : LayerView). IfOk c.fill.result (λ r. (load : Load) × IsLoadOf before after load × IsAllOf before after load × (r ≡ report_of l c.args.head.now.langs c.args.layer (g.T.Taker.table c.args.into.now) load) × (g.T.Taker.table c.fill.new.into ≡ after_items l c.args.head.now.langs c.args.layer (g.T.Taker.table c.args.into.now) load.gave))) same
    (loaded c.at.result.now c.args.head.now.langs c.args.layer (g.T.Taker.table c.args.into.now) (g.T.Taker.table c.fill.new.into) before after c.fill.result e.load e.count e.ended e.fault e.limit e.kept)
