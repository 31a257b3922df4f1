-- How many grid entries a query matches: for each layer and each run, the distinct entries of the layer whose phrase the run matches. Box and language play no part.
use Rattle.std.specs.Prelude.{ℕ, ◌*◌, Bool, List, ◌∷◌, length, map, filter, flat_map, sum_by, slice_get, bytes_eq, Option, Some, None}
use Rattle.geo_base.specs.Lists.{numbers_from, once}
use Rattle.geo_base.specs.TileView.{TileView}
use Rattle.geo_layer.specs.Layer.{LayerView}
use Rattle.geo_layer.specs.declared.head.Head.{Head}
use Rattle.geo_query.specs.QueryView.{QueryView}
use Rattle.feature_reader.specs.FeatureView.{FeatureView}
use Rattle.feature_reader.specs.Table.{Table, features_in}
use Rattle.feature_reader.specs.declared.phrase.Phrase.{Phrase}
use Rattle.plain_answer.specs.Match.{matches_in, runs}

-- a grid entry of a layer: a phrase of a feature, the feature's score and id, and the column and row of one of its tiles
pub record Entry : Type 0 where
  pub phrase : Phrase
  pub score : ℕ
  pub x : ℕ
  pub y : ℕ
  pub id : ℕ

-- the entry of a feature, a phrase of it and a tile
abbrev pub entry_at : FeatureView → Phrase → TileView → Entry
entry_at f p tile = record { phrase = p; score = f.score; x = tile.x; y = tile.y; id = f.id }

-- the entries of a feature: one for each phrase and each tile
abbrev pub feature_entries : FeatureView → List Entry
feature_entries f = flat_map (λ p. map (entry_at f p) f.tiles) f.phrases

-- the entries of the features of a layer
abbrev pub layer_entries : List FeatureView → List Entry
layer_entries features = flat_map feature_entries features

-- an entry as numbers: its languages, relevance, score, column, row and id, and the bytes of its text
abbrev pub entry_numbers : Entry → List ℕ
entry_numbers e = e.phrase.set.bits ∷ e.phrase.relev ∷ e.score ∷ e.x ∷ e.y ∷ e.id ∷ e.phrase.text

-- two entries are the same
abbrev pub same_entry : Entry → Entry → Bool
same_entry a b = bytes_eq (entry_numbers a) (entry_numbers b)

-- the distinct entries of a layer whose phrase a run matches
abbrev pub run_entries : QueryView → LayerView → List FeatureView → ℕ × ℕ → List Entry
run_entries q layer features run = once same_entry (filter (λ e. matches_in layer q e.phrase.text run) (layer_entries features))

-- the entries of a layer that the runs match, where there is such a layer: one that two runs match counts twice
abbrev pub layer_count : QueryView → Option LayerView → List FeatureView → ℕ
layer_count q None features = 0
layer_count q (Some layer) features = sum_by (λ run. length (run_entries q layer features run)) (runs (length q.tokens))

-- the grid count of a query
abbrev pub count : Head → Table → QueryView → ℕ
count head table q = sum_by (λ k. layer_count q (slice_get head.layers k) (features_in table k)) (numbers_from 0 (length head.layers))

-- ---- the same number without a list of entries

-- the runs of a query that match a phrase, counted
abbrev pub run_count : QueryView → LayerView → Phrase → ℕ
run_count q layer p = length (filter (matches_in layer q p.text) (runs (length q.tokens)))

-- the entries of a feature that a query matches, where there is such a layer: for each phrase the runs that match it, times the tiles
abbrev pub feature_count : QueryView → Option LayerView → FeatureView → ℕ
feature_count q None f = 0
feature_count q (Some layer) f = sum_by (λ p. run_count q layer p * length f.tiles) f.phrases

-- their sum over all features
abbrev pub product_count : Head → Table → QueryView → ℕ
product_count head table q = sum_by (λ entry. feature_count q (slice_get head.layers entry.0) entry.1) table
