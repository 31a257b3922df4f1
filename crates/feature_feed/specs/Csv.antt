-- The rows of a text of CSV, and the items that a feed of them gives.
use Rattle.std.specs.Prelude.{ℕ, Bool, false, List, [], ◌∷◌, ◌&&◌, map, codes, bytes_eq, if◌then◌else◌}
use Rattle.csv.specs.Reading.{records, default_config, strip_bom}
use Rattle.feature_feed.specs.declared.feed.FeedItem.{FeedItem}
use Rattle.feature_feed.specs.declared.feed.FeedItem.TheVariants.{Row}

-- the fields are those of the header: id, text, zxy and score
abbrev pub is_header : List (List ℕ) → Bool
is_header [] = false
is_header (a ∷ []) = false
is_header (a ∷ b ∷ []) = false
is_header (a ∷ b ∷ c ∷ []) = false
is_header (a ∷ b ∷ c ∷ d ∷ []) = bytes_eq a (codes "id") && bytes_eq b (codes "text") && bytes_eq c (codes "zxy") && bytes_eq d (codes "score")
is_header (a ∷ b ∷ c ∷ d ∷ e ∷ more) = false

-- rows without a first one that is the header
abbrev pub without_header : List (List (List ℕ)) → List (List (List ℕ))
without_header [] = []
without_header (row ∷ rows) = if is_header row then rows else row ∷ rows

-- rows as items of a feed
abbrev pub row_items : List (List (List ℕ)) → List FeedItem
row_items rows = map Row rows

-- the items of a text of CSV: a row for each of its records, but none for a header before all others
abbrev pub csv_items : List ℕ → List FeedItem
csv_items bytes = row_items (without_header (records default_config (strip_bom bytes)))
