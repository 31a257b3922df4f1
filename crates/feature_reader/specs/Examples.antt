-- Worked texts and rows of features, for a layer of zoom 6.
use Rattle.std.specs.Prelude.{ℕ, List, codes, [], ◌∷◌, None, Result}
use Rattle.feature_reader.specs.FeatureView.{FeatureView}
use Rattle.feature_reader.specs.declared.phrase.Phrase.{Phrase}
use Rattle.geo_layer.specs.Layer.{LayerView}
use Rattle.feature_reader.specs.Languages.{all_languages}
use Rattle.feature_reader.specs.Feature.{feature_of}
use Rattle.feature_reader.specs.Row.{feature_of_row}
use Rattle.feature_reader.specs.declared.feature.FeatureFault.{FeatureFault}

-- a layer of places
abbrev pub place : LayerView
place = record { name = codes "place"; zoom = 6; stack = None; scoremax = 15; tokens = [] }

-- the feature of that layer that the text stands for, where no language is listed
abbrev pub read : List ℕ → Result FeatureView FeatureFault
read text = feature_of place [] text

-- the same where German is the only listed language
abbrev pub read_with_german : List ℕ → Result FeatureView FeatureFault
read_with_german text = feature_of place (codes "de" ∷ []) text

-- the same where French and English are listed
abbrev pub read_with_two : List ℕ → Result FeatureView FeatureFault
read_with_two text = feature_of place (codes "fr" ∷ codes "en" ∷ []) text

-- a text in a set of languages
abbrev pub phrase_in : ℕ → ℕ → List ℕ → Phrase
phrase_in set relev text = record { text = text; set = record { bits = set }; relev = relev }

-- a text in every language
abbrev pub phrase_at : ℕ → List ℕ → Phrase
phrase_at relev text = phrase_in all_languages relev text

-- New York, with one of its tiles listed twice
abbrev pub new_york_text : List ℕ
new_york_text = codes "{\"id\":7,\"properties\":{\"carmen:text\":\"New York\",\"carmen:zxy\":[\"6/33/32\",\"6/32/32\",\"6/33/32\"]}}"

-- the feature that it is
abbrev pub new_york : FeatureView
new_york =
    record {
      id = 7;
      score = 0;
      phrases = record { text = codes "new york"; set = record { bits = all_languages }; relev = 100 } ∷ [];
      tiles = record { z = 6; x = 32; y = 32 } ∷ record { z = 6; x = 33; y = 32 } ∷ [];
    }

-- a feature with these phrases and the first tile
abbrev pub named : List Phrase → FeatureView
named phrases = record { id = 1; score = 0; phrases = phrases; tiles = record { z = 6; x = 0; y = 0 } ∷ [] }

-- the feature of that layer that a row of these fields stands for
abbrev pub read_row : List (List ℕ) → Result FeatureView FeatureFault
read_row fields = feature_of_row place [] fields

-- a row of four fields
abbrev pub row : List ℕ → List ℕ → List ℕ → List ℕ → List (List ℕ)
row id text zxy score = id ∷ text ∷ zxy ∷ score ∷ []

-- a row that is right but for its id
abbrev pub row_of_id : List ℕ → List (List ℕ)
row_of_id id = row id (codes "a") (codes "6/0/0") []

-- a row that is right but for its tiles
abbrev pub row_of_tiles : List ℕ → List (List ℕ)
row_of_tiles zxy = row (codes "1") (codes "a") zxy []

-- a row that is right but for its score
abbrev pub row_of_score : List ℕ → List (List ℕ)
row_of_score score = row (codes "1") (codes "a") (codes "6/0/0") score

-- the feature that such a row is, by its id and its level of score
abbrev pub row_feature : ℕ → ℕ → FeatureView
row_feature id score = record { id = id; score = score; phrases = phrase_at 100 (codes "a") ∷ []; tiles = record { z = 6; x = 0; y = 0 } ∷ [] }

-- Paris with a second name, on two tiles
abbrev pub paris : FeatureView
paris =
    record {
      id = 7;
      score = 15;
      phrases = phrase_at 100 (codes "paris") ∷ phrase_at 80 (codes "lutece") ∷ [];
      tiles = record { z = 6; x = 1; y = 1 } ∷ record { z = 6; x = 2; y = 1 } ∷ [];
    }
