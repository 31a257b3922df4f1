-- The tiles of a feature.
use Rattle.std.specs.Prelude.{List, [], ◌∷◌, ◌&&◌, nat_le, length, if◌then◌else◌, Option, Some, None}
use Rattle.std.specs.Ordering.{match_ordering}
use Rattle.geo_base.specs.TileView.{TileView}
use Rattle.feature_reader.specs.FeatureView.{tile_cmp}

-- 1 to 4,096 tiles
abbrev pub some_tiles : List TileView → Option (List TileView)
some_tiles tiles = if nat_le 1 (length tiles) && nat_le (length tiles) 4096 then Some tiles else None

-- the tile at its place by column and then row, once
abbrev pub with_tile : TileView → List TileView → List TileView
with_tile t [] = t ∷ []
with_tile t (u ∷ us) = match_ordering (tile_cmp t u) (t ∷ u ∷ us) (u ∷ us) (u ∷ with_tile t us)

-- the tiles rising by column and then row, each once
abbrev pub rising : List TileView → List TileView
rising [] = []
rising (t ∷ ts) = with_tile t (rising ts)
