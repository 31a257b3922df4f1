use Rattle.std.proofs.Common.{◌≡◌, ◌++◌, option_map, length}
use Rattle.geo_text.specs.Words.{words_of}
use Rattle.geo_layer.specs.Json.{each_of}
use Rattle.feature_json.specs.Tiles.{tile_of}
use Rattle.feature_reader.proofs.row.read_tiles.Given as goal

-- the tiles so far and those of the words that are left are those of all words
abbrev pub invariant-loop-word : goal.invariant-loop-word
invariant-loop-word l = option_map (λ ts. l.tiles.items ++ ts) (each_of tile_of (words_of l.rest)) ≡ each_of tile_of (words_of l.text)

abbrev pub decreases-loop-word : goal.decreases-loop-word
decreases-loop-word l = length l.rest
