-- Tiles as texts, and lists of them.
use Rattle.std.specs.Prelude.{ℕ, List, [], ◌∷◌, Option, None, option_and_then}
use Rattle.serde_json.specs.Data.{Data}
use Rattle.serde_json.specs.Find.{as_str, as_array}
use Rattle.geo_base.specs.TileView.{TileView, tile_at}
use Rattle.geo_text.specs.Numbers.{slashed}
use Rattle.geo_layer.specs.Json.{list_of, each_of}

-- three numbers make a tile
abbrev pub tile_of_numbers : List ℕ → Option TileView
tile_of_numbers (z ∷ x ∷ y ∷ []) = tile_at z x y
tile_of_numbers numbers = None

-- the tile that a text `z/x/y` names
abbrev pub tile_of : List ℕ → Option TileView
tile_of text = option_and_then tile_of_numbers (slashed text)

-- the tile that a value names, where it is a string that names one
abbrev pub tile_in : Data → Option TileView
tile_in d = option_and_then tile_of (as_str d)

-- the tiles that the strings of a list name, where each names one
abbrev pub all_tiles : Option Data → Option (List TileView)
all_tiles d = option_and_then (λ items. each_of tile_in (list_of items)) (option_and_then as_array d)
