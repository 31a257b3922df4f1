-- The feature of an item has the zoom of its layer.
use Rattle.std.proofs.Common.{◌≡◌, ◌<◌, ℕ, List, [], ◌∷◌, length, Ok, ok_or, All, arith}
use Rattle.std.proofs.lemmas.List.Elements.{All-head}
use Rattle.geo_base.specs.TileView.{TileView}
use Rattle.geo_layer.specs.Layer.{LayerView}
use Rattle.feature_reader.specs.FeatureView.{FeatureView, first_zoom, zoom_of}
use Rattle.feature_reader.specs.Feature.{feature_in}
use Rattle.feature_reader.specs.Row.{row_said}
use Rattle.feature_reader.specs.declared.feature.FeatureFault.TheVariants as fault
use Rattle.feature_reader.proofs.Zooms.{bind_ok, feature_zoom, in_zoom}
use Rattle.feature_feed.specs.Drain.{feature_of_item}
use Rattle.feature_feed.specs.declared.feed.FeedItem.{FeedItem}
use Rattle.feature_feed.specs.declared.feed.FeedItem.TheVariants.{Json, Row}

first_is : (zoom : ℕ) (tiles : List TileView) → 0 < length tiles → All (λ t. t.z ≡ zoom) tiles → first_zoom tiles ≡ zoom
first_is zoom [] some all = absurd (omega (arith, some))
first_is zoom (t ∷ tiles) some all = All-head (λ (t : TileView). t.z ≡ zoom) t tiles all

-- all tiles of the feature of an item have the zoom of its layer
pub all_zoom : (layer : LayerView) (langs : List (List ℕ)) (item : FeedItem) (f : FeatureView) → feature_of_item layer langs item ≡ Ok f → All (λ t. t.z ≡ layer.zoom) f.tiles
all_zoom layer langs (Json bytes) f is = feature_zoom layer langs bytes f is
all_zoom layer langs (Row fields) f is =
    let (said, is_said, found) = bind_ok (ok_or (row_said fields) fault.Json) (λ said. feature_in layer langs said) f is in
    in_zoom layer langs said f found

pub item_zoom : (layer : LayerView) (langs : List (List ℕ)) (item : FeedItem) (f : FeatureView) → feature_of_item layer langs item ≡ Ok f → 0 < length f.tiles → zoom_of f ≡ layer.zoom
item_zoom layer langs item f is some = first_is layer.zoom f.tiles some (all_zoom layer langs item f is)
