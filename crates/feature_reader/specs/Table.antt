-- The table of features, as the fold of the puts and drops, within its limits.
use Rattle.std.specs.Prelude.{◌≡◌, ℕ, ◌≤◌, ◌*◌, Bool, true, List, [], ◌∷◌, ◌&&◌, ◌||◌, ◌==◌, not, nat_lt, nat_le, length, map, sum_by, filter, slice_get, if◌then◌else◌, All, AllPairs, IfSome, IsSome, Result, Ok, Err}
use Rattle.std.specs.List.{list_any}
use Rattle.geo_layer.specs.declared.head.Head.{Head}
use Rattle.feature_reader.specs.FeatureView.{FeatureView}
use Rattle.feature_reader.specs.declared.table.Place.{Place}
use Rattle.feature_reader.specs.declared.taker.PutFault.{PutFault}
use Rattle.feature_reader.specs.declared.taker.PutFault.TheVariants.{TooManyFeatures, TooManyRows}
use Rattle.feature_reader.specs.declared.taker.Taken.{Taken}
use Rattle.feature_reader.specs.declared.taker.Taken.TheVariants.{New, Changed}

-- features with their layers, by layer and then id, each pair once
abbrev pub Table : Type 0
Table = List (ℕ × FeatureView)

-- what stands at a place as an entry of the table: its layer and the feature
abbrev pub entry_of : Place × FeatureView → ℕ × FeatureView
entry_of (place, f) = (place.layer, f)

-- the entry is the feature of this layer and id
abbrev pub is_at : ℕ → ℕ → ℕ × FeatureView → Bool
is_at layer id entry = entry.0 == layer && entry.1.id == id

-- the table has the feature of this layer and id
abbrev pub stands : Table → ℕ → ℕ → Bool
stands table layer id = list_any (is_at layer id) table

-- the table without that feature
abbrev pub without : Table → ℕ → ℕ → Table
without table layer id = filter (λ entry. not (is_at layer id entry)) table

-- layer and id come before those of the entry
abbrev pub comes_before : ℕ → ℕ → ℕ × FeatureView → Bool
comes_before layer id entry = nat_lt layer entry.0 || (layer == entry.0 && nat_lt id entry.1.id)

-- the table with the feature at its place: after all that come before it
abbrev pub inserted : ℕ → FeatureView → Table → Table
inserted layer f [] = (layer, f) ∷ []
inserted layer f (entry ∷ entries) = if comes_before layer f.id entry then (layer, f) ∷ entry ∷ entries else entry ∷ inserted layer f entries

-- the features of a layer
abbrev pub features_in : Table → ℕ → List FeatureView
features_in table layer = map (λ entry. entry.1) (filter (λ entry. entry.0 == layer) table)

-- the rows of a feature: its phrases times its tiles
abbrev pub rows_of : FeatureView → ℕ
rows_of f = length f.phrases * length f.tiles

-- the rows of a table
abbrev pub rows : Table → ℕ
rows table = sum_by (λ entry. rows_of entry.1) table

-- the most features of a table
abbrev pub most_features : ℕ
most_features = 262144

-- the most rows of a table
abbrev pub most_rows : ℕ
most_rows = 8388608

-- the table with the feature at its place, instead of the one that stood there
abbrev pub with_feature : Table → ℕ → FeatureView → Table
with_feature table layer f = inserted layer f (without table layer f.id)

-- a feature of this layer and id would be one too many
abbrev pub is_one_too_many : Table → ℕ → ℕ → Bool
is_one_too_many table layer id = not (stands table layer id) && nat_le most_features (length table)

-- what a put answers: the feature is new, or it changed the one that stood there; or it would be one too many, or its rows would be
abbrev pub put_answer : Table → ℕ → FeatureView → Result Taken PutFault
put_answer table layer f =
    if is_one_too_many table layer f.id then Err TooManyFeatures
    else if nat_lt most_rows (rows (with_feature table layer f)) then Err TooManyRows
    else if stands table layer f.id then Ok Changed
    else Ok New

-- the table after a put that was answered so: a refused put leaves it
abbrev pub after_put : Table → ℕ → FeatureView → Result Taken PutFault → Table
after_put table layer f (Ok taken) = with_feature table layer f
after_put table layer f (Err fault) = table

-- the table after a put
abbrev pub put : Table → ℕ → FeatureView → Table
put table layer f = after_put table layer f (put_answer table layer f)

-- the entries rise by layer and then id
abbrev pub IsTable : Table → Type 0
IsTable table = AllPairs (λ a b. comes_before a.0 a.1.id b ≡ true) table

-- the table keeps its limits
abbrev pub IsWithinLimits : Table → Type 0
IsWithinLimits table = (length table ≤ most_features) × (rows table ≤ most_rows)

-- each feature is in a layer of the head, and its tiles have that layer's zoom
abbrev pub IsOfHead : Head → Table → Type 0
IsOfHead head table = All (λ entry. IsSome (slice_get head.layers entry.0) × IfSome (slice_get head.layers entry.0) (λ layer. All (λ t. t.z ≡ layer.zoom) entry.1.tiles)) table
