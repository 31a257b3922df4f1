-- Loads: what the feeds of a session gave, and what came of it.
use Rattle.std.specs.Prelude.{◌≡◌, ◌≢◌, ◌<◌, ◌+◌, ◌↔◌, ℕ, List, ◌++◌, length, count_by, slice_get, Some, None}
use Rattle.geo_layer.specs.Layer.{LayerView}
use Rattle.geo_layer.specs.declared.head.Head.{Head}
use Rattle.geo_outside.specs.Device.{Rose}
use Rattle.feature_reader.specs.Table.{Table}
use Rattle.feature_reader.specs.declared.load_report.LoadReport.{LoadReport}
use Rattle.feature_reader.specs.declared.load_report.LoadEnd.{LoadEnd}
use Rattle.feature_reader.specs.declared.load_report.LoadEnd.TheVariants.{End, Fault, Limit}
use Rattle.feature_feed.specs.Feed.{FeedView}
use Rattle.feature_feed.specs.Drain.{outcomes_of, after_items, is_bad, is_full}
use Rattle.feature_feed.specs.declared.feed.FeedItem.{FeedItem}

-- what a feed gave while it was loaded, and how that ended
pub record Load : Type 0 where
  pub gave : List FeedItem
  pub end : LoadEnd

-- what each feed of a session gave, by its number: a session names a feed at most once
abbrev pub Loads : Type 0
Loads = ℕ → Load

-- the most items that a load pulls
abbrev pub most_items : ℕ
most_items = 1048576

-- ---- what comes of a load

-- the table after a load into the layer of this number
abbrev pub after_load : Head → ℕ → Table → Load → Table
after_load head place table load = elim (slice_get head.layers place) [ None ↦ table | Some layer ↦ after_items layer head.langs place table load.gave ]

-- what is told of a load: how many items were given, how many of them are no feature, how many features were refused for a limit, and how it ended
abbrev pub report_of : LayerView → List (List ℕ) → ℕ → Table → Load → LoadReport
report_of layer langs place table load = record {
  read = length load.gave;
  bad = count_by is_bad (outcomes_of layer langs place table load.gave);
  full = count_by is_full (outcomes_of layer langs place table load.gave);
  end = load.end;
}

-- ---- what a load may be

-- a load of a feed that was as the first says and is as the second: of items that it told the first ones, all of them where the load says `end`; `limit` exactly where it is the most items; `fault` only where a pull failed
pub record IsLoadOf (before after : FeedView) (load : Load) : Type 0 where
  pub first : (items : List FeedItem) → before.left ≡ Some items → (more : List FeedItem) × (items ≡ load.gave ++ more)
  pub ended : load.end ≡ End → (length load.gave < most_items) × ((items : List FeedItem) → before.left ≡ Some items → items ≡ load.gave)
  pub limited : (load.end ≡ Limit) ↔ (length load.gave ≡ most_items)
  pub failed : load.end ≡ Fault → (length load.gave < most_items) × Rose before.faults after.faults

-- all that the feed gave: its count of items given rose by so many, up to where it stands still; what it still tells is what is left; and no fault is passed over
pub record IsAllOf (before after : FeedView) (load : Load) : Type 0 where
  pub given : after.given < 18446744073709551615 → after.given ≡ before.given + length load.gave
  pub left : (more : List FeedItem) → after.left ≡ Some more → before.left ≡ Some (load.gave ++ more)
  pub kept : load.end ≢ Fault → after.faults ≡ before.faults
