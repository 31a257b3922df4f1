use Rattle.std.proofs.Common.{◌∙◌, ◌∷◌, sym, ap}
use Rattle.feature_feed.specs.Feed.{FeedView}
use Rattle.feature_feed.specs.JsonLines.{onto}
use Rattle.feature_feed.specs.declared.feed.FeedItem.TheVariants.{Json}
use Rattle.feature_feed.proofs.json_lines_feed.JsonLinesFeedFeed.next.Goals as goal

pub returns-in_err-text-clause-told : goal.returns-in_err-text-clause-told
returns-in_err-text-clause-told g c = λ items is. (items, sym (ap (λ (v : FeedView). v.left) c.self.view_is) ∙ sym c.in_err-text.ensures.same ∙ is)

pub returns-clause-told : goal.returns-clause-told
returns-clause-told g c =
    let one = Json c.in-Some.text.items in
    let took = rw c.in-Some.is at c.in_ok-text.ensures.text in
    λ items is. (one ∷ items, sym (ap (λ (v : FeedView). v.left) c.self.view_is) ∙ took ∙ ap (onto one) is)
