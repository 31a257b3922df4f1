use Rattle.std.proofs.Common.{◌∙◌, sym, ap, take, ℕ, Vec, Global}
use Rattle.geo_outside.specs.Device.{most_bytes}
use Rattle.feature_feed.specs.Feed.{FeedView}
use Rattle.feature_feed.proofs.CsvFeedFacts.{left_by_bytes, opened_left}
use Rattle.feature_feed.proofs.csv_feed.CsvFeed.open.Goals as goal

pub returns-in_err-take_source-clause-left : goal.returns-in_err-take_source-clause-left
returns-in_err-take_source-clause-left g c =
    let f = c.self.inside in
    left_by_bytes f.opened f.source.left c.take_source.new.source.left f.taken.items c.take_source.new.taken.items (sym c.is_some.ensures ∙ c.if-is_some.false) c.in_err-take_source.ensures.bytes
    ∙ ap (λ (v : FeedView). v.left) c.self.view_is

pub returns-clause-left : goal.returns-clause-left
returns-clause-left g c =
    let f = c.self.inside in
    opened_left f.opened f.source.left c.take_source.new.source.left f.taken.items c.take_source.new.taken.items c.truncate.new.self.items c.replace-bytes.new.dest.items (record { rows = c.new-2.result; given = 0 })
    (sym c.is_some.ensures ∙ c.if-is_some.false) c.in_ok-take_source.ensures.bytes c.in_ok-take_source.ensures.whole
    (c.truncate.ensures.items ∙ ap (λ (v : Vec ℕ Global). take most_bytes v.items) c.replace-bytes.ensures.value) c.new-2.ensures
    ∙ ap (λ (v : FeedView). v.left) c.self.view_is
