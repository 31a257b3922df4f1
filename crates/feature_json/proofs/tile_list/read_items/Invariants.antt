use Rattle.std.proofs.Common.{◌≡◌, ℕ, ◌≤◌, length, List}
use Rattle.json.specs.Json.{items, value, parse_map}
use Rattle.serde_json.specs.Data.{Data}
use Rattle.serde_json.specs.Read.{of_items, converted}
use Rattle.geo_layer.specs.Json.{each_of}
use Rattle.feature_json.specs.Tiles.{tile_in}
use Rattle.feature_json.specs.Said.{kept}
use Rattle.feature_json.proofs.Listed.{before}
use Rattle.feature_json.proofs.tile_list.read_items.Given as goal

abbrev pub invariant-items : goal.invariant-items
invariant-items l =
    (n : ℕ) × (ds : List Data) × (length l.reader ≤ n)
    × (converted of_items (items (value l.depth) (length l.initial.reader) l.initial.reader) ≡ parse_map (before ds) (converted of_items (items (value l.depth) n l.reader)))
    × (length l.reader ≤ length l.initial.reader)
    × (kept l.good l.tiles.items ≡ each_of tile_in ds)

abbrev pub decreases-items : goal.decreases-items
decreases-items l = length l.reader
