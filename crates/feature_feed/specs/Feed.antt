-- What feeds show, and what a pull of one may do.
use Rattle.std.specs.Prelude.{◌≡◌, ℕ, List, [], ◌∷◌, slice_index_or, Option, Some, None, Result, Ok, Err}
use Rattle.geo_outside.specs.Device.{raised}
use Rattle.feature_feed.specs.declared.feed.FeedItem.{FeedItem}
use Rattle.feature_feed.specs.declared.feed.FeedError.{FeedError}

-- what a feed shows: the items that are left, where it can tell them, how many were given, and how many pulls have failed
pub record FeedView : Type 0 where
  pub left : Option (List FeedItem)
  pub given : ℕ
  pub faults : ℕ

-- a feed that shows this
abbrev pub feed_view : Option (List FeedItem) → ℕ → ℕ → FeedView
feed_view left given faults = record { left = left; given = given; faults = faults }

-- the feed of this number, counted from 0; behind the last one, one that tells nothing
abbrev pub feed_at : List FeedView → ℕ → FeedView
feed_at feeds n = slice_index_or feeds n (feed_view None 0 0)

-- of these items the first is given and the others are left; or there is none, and none is given
abbrev pub Gives : List FeedItem → Option FeedItem → Option (List FeedItem) → Type 0
Gives items None left = (items ≡ []) × (left ≡ Some [])
Gives items (Some item) left = (more : List FeedItem) × (items ≡ item ∷ more) × (left ≡ Some more)

-- the count of items given after a pull: one more with an item, else the same
abbrev pub given_after : ℕ → Result (Option FeedItem) FeedError → ℕ
given_after count (Ok None) = count
given_after count (Ok (Some item)) = raised count
given_after count (Err e) = count
