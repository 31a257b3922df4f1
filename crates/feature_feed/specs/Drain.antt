-- The table after the items that a feed gave, and what is counted of them.
use Rattle.std.specs.Prelude.{◌≡◌, ℕ, ◌+◌, Bool, true, false, List, [], ◌∷◌, ◌++◌, length, count_by, fold, Option, Some, Result, Ok, Err}
use Rattle.geo_layer.specs.Layer.{LayerView}
use Rattle.feature_reader.specs.FeatureView.{FeatureView}
use Rattle.feature_reader.specs.Table.{Table, put, put_answer}
use Rattle.feature_reader.specs.Feature.{feature_of}
use Rattle.feature_reader.specs.Row.{feature_of_row}
use Rattle.feature_reader.specs.declared.feature.FeatureFault.{FeatureFault}
use Rattle.feature_reader.specs.declared.load_report.LoadReport.{LoadReport}
use Rattle.feature_feed.specs.declared.drain.Outcome.{Outcome}
use Rattle.feature_feed.specs.declared.drain.Outcome.TheVariants.{Bad, Full, Put}
use Rattle.feature_feed.specs.declared.feed.FeedItem.{FeedItem}
use Rattle.feature_feed.specs.declared.feed.FeedItem.TheVariants.{Json, Row}

-- the feature of a layer that an item stands for, or its first fault
abbrev pub feature_of_item : LayerView → List (List ℕ) → FeedItem → Result FeatureView FeatureFault
feature_of_item layer langs (Json bytes) = feature_of layer langs bytes
feature_of_item layer langs (Row fields) = feature_of_row layer langs fields

-- what comes of an item: its feature is put into the table, or refused for a limit, or it stands for none
abbrev pub outcome_of : LayerView → List (List ℕ) → ℕ → Table → FeedItem → Outcome
outcome_of layer langs place table item = elim (feature_of_item layer langs item) [ Err e ↦ Bad | Ok f ↦ elim (put_answer table place f) [ Err e ↦ Full | Ok taken ↦ Put ] ]

-- the table after an item, whose feature is put into a layer where it stands for one
abbrev pub after_item : LayerView → List (List ℕ) → ℕ → Table → FeedItem → Table
after_item layer langs place table item = elim (feature_of_item layer langs item) [ Err e ↦ table | Ok f ↦ put table place f ]

-- the table after these items
abbrev pub after_items : LayerView → List (List ℕ) → ℕ → Table → List FeedItem → Table
after_items layer langs place table items = fold (after_item layer langs place) table items

-- what comes of each of the items, by the table after those before it
abbrev pub outcomes_of : LayerView → List (List ℕ) → ℕ → Table → List FeedItem → List Outcome
outcomes_of layer langs place table [] = []
outcomes_of layer langs place table (item ∷ items) = outcome_of layer langs place table item ∷ outcomes_of layer langs place (after_item layer langs place table item) items

-- it is a bad one
abbrev pub is_bad : Outcome → Bool
is_bad Bad = true
is_bad Full = false
is_bad Put = false

-- it was refused
abbrev pub is_full : Outcome → Bool
is_full Bad = false
is_full Full = true
is_full Put = false

-- what a feed gave: of items that it told, these are the first, and it has given just these where it still tells what is left
pub record Gave (before : Option (List FeedItem)) (gave : List FeedItem) (left : Option (List FeedItem)) : Type 0 where
  pub front : (items : List FeedItem) → before ≡ Some items → (more : List FeedItem) × (items ≡ gave ++ more)
  pub rest : (more : List FeedItem) → left ≡ Some more → before ≡ Some (gave ++ more)

-- what a load of these items into a layer did: it read them all, put each that is a feature, and counted those that are none and those that were refused
pub record IsLoad (layer : LayerView) (langs : List (List ℕ)) (place : ℕ) (before after : Table) (report : LoadReport) (gave : List FeedItem) : Type 0 where
  pub read : report.read ≡ length gave
  pub bad : report.bad ≡ count_by is_bad (outcomes_of layer langs place before gave)
  pub full : report.full ≡ count_by is_full (outcomes_of layer langs place before gave)
  pub table : after ≡ after_items layer langs place before gave

-- ---- for a private contract alone

-- a report with one more item, of which this came
abbrev pub with_outcome : LoadReport → Outcome → LoadReport
with_outcome r Put = record r { read = r.read + 1 }
with_outcome r Bad = record r { read = r.read + 1; bad = r.bad + 1 }
with_outcome r Full = record r { read = r.read + 1; full = r.full + 1 }
