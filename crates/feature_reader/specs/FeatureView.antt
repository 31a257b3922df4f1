-- Features as data, and what their type keeps.
use Rattle.std.specs.Prelude.{◌≡◌, ◌≢◌, ℕ, ◌<◌, ◌≤◌, ◌⊎◌, List, [], ◌∷◌, length, All, AllPairs}
use Rattle.std.specs.Ordering.{nat_cmp, ordering_then}
use Rattle.std.specs.declared.cmp.Ordering.{Ordering}
use Rattle.std.specs.declared.cmp.Ordering.TheVariants.{Less}
use Rattle.geo_base.specs.TileView.{TileView, IsTile}
use Rattle.geo_text.specs.Tokens.{joined}
use Rattle.geo_text.specs.Words.{IsWord}
use Rattle.feature_reader.specs.declared.phrase.Phrase.{Phrase}

-- a feature: its id, its level of score, its phrases and its tiles
pub record FeatureView : Type 0 where
  pub id : ℕ
  pub score : ℕ
  pub phrases : List Phrase
  pub tiles : List TileView

-- the zoom of the first of some tiles, 0 where there is none
abbrev pub first_zoom : List TileView → ℕ
first_zoom [] = 0
first_zoom (t ∷ ts) = t.z

-- the zoom of a feature's tiles
abbrev pub zoom_of : FeatureView → ℕ
zoom_of f = first_zoom f.tiles

-- the order of tiles of one zoom: by column, then by row
abbrev pub tile_cmp : TileView → TileView → Ordering
tile_cmp t u = ordering_then (nat_cmp t.x u.x) (nat_cmp t.y u.y)

-- the text is 1 to 20 words with one space between them
abbrev pub IsPhraseText : List ℕ → Type 0
IsPhraseText text = (words : List (List ℕ)) × (text ≡ joined words) × (0 < length words) × (length words ≤ 20) × All IsWord words

-- a relevance: 40, 60, 80 or 100
abbrev pub IsRelevance : ℕ → Type 0
IsRelevance n = (n ≡ 40) ⊎ ((n ≡ 60) ⊎ ((n ≡ 80) ⊎ (n ≡ 100)))

-- what the type of a feature keeps
pub record IsFeature (f : FeatureView) : Type 0 where
  pub id : f.id < 67108864
  pub score : f.score < 16
  pub texts : All (λ p. IsPhraseText p.text) f.phrases
  pub relevances : All (λ p. IsRelevance p.relev) f.phrases
  pub distinct : AllPairs (λ p q. p ≢ q) f.phrases
  pub some : 0 < length f.tiles
  pub few : length f.tiles ≤ 4096
  pub tiles : All IsTile f.tiles
  pub rising : AllPairs (λ t u. tile_cmp t u ≡ Less) f.tiles
  pub one_zoom : AllPairs (λ t u. t.z ≡ u.z) f.tiles
