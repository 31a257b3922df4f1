-- The states of a feed in memory, and what a pull makes of them.
use Rattle.std.specs.Prelude.{ℕ, List, [], ◌∷◌, drop, Option, Some, None}
use Rattle.geo_outside.specs.Device.{raised}
use Rattle.feature_feed.specs.declared.feed.FeedItem.{FeedItem}

-- the items that are left, the numbers of the pulls that fail, the pulls so far, the items given so far and the faults so far
pub record FeedState : Type 0 where
  pub left : List FeedItem
  pub fails : List ℕ
  pub pulls : ℕ
  pub given : ℕ
  pub faults : ℕ

-- what a pull that doesn't fail gives: the first of the items, or none
abbrev pub first_item : List FeedItem → Option FeedItem
first_item [] = None
first_item (item ∷ items) = Some item

-- the feed after a pull that gave this
abbrev pub after_pull : FeedState → Option FeedItem → FeedState
after_pull f None = record f { pulls = raised f.pulls }
after_pull f (Some item) = record f { left = drop 1 f.left; pulls = raised f.pulls; given = raised f.given }

-- the feed after a pull that failed
abbrev pub after_failed_pull : FeedState → FeedState
after_failed_pull f = record f { pulls = raised f.pulls; faults = raised f.faults }
