-- What a feed of the rows of a source shows.
use Rattle.std.specs.Prelude.{ℕ, List, ◌++◌, take, Option, Some, None, option_map}
use Rattle.feature_feed.specs.Csv.{csv_items, row_items}
use Rattle.geo_outside.specs.Device.{most_bytes}
use Rattle.feature_feed.specs.declared.csv_feed.Opened.{Opened}
use Rattle.feature_feed.specs.declared.feed.FeedItem.{FeedItem}

-- the items that are left, where the source tells its bytes: while it is taken, those of what was taken and the first bytes of what it has left; then the rows that weren't read
abbrev pub left_at : Option Opened → List ℕ → Option (List ℕ) → Option (List FeedItem)
left_at opened taken None = None
left_at None taken (Some rest) = Some (csv_items (take most_bytes (taken ++ rest)))
left_at (Some opened) taken (Some rest) = option_map row_items opened.rows

-- how many items were given: none while the source is taken
abbrev pub given_at : Option Opened → ℕ
given_at None = 0
given_at (Some opened) = opened.given
