-- The feature that a row of CSV stands for in a layer, or its first fault. The fields are the id, the text, the tiles and the score.
use Rattle.std.specs.Prelude.{ℕ, ℤ, pos, neg_ℤ, List, [], ◌∷◌, ◌&&◌, ◌==◌, if◌then◌else◌, Option, Some, None, option_map, option_and_then, slice_get, Result, ok_or}
use Rattle.std.specs.Str.{is_utf8}
use Rattle.serde_json.specs.Data.{unsigned}
use Rattle.serde_json.specs.Find.{of_integer}
use Rattle.geo_text.specs.Numbers.{digits_of, number_of}
use Rattle.geo_text.specs.Words.{words_of}
use Rattle.geo_layer.specs.Json.{each_of, ◌>>=◌}
use Rattle.geo_layer.specs.Layer.{LayerView}
use Rattle.feature_json.specs.Shape.{Shape, number, string}
use Rattle.feature_json.specs.Tiles.{tile_of}
use Rattle.feature_json.specs.Said.{Said}
use Rattle.feature_reader.specs.FeatureView.{FeatureView}
use Rattle.feature_reader.specs.Feature.{feature_in}
use Rattle.feature_reader.specs.declared.feature.FeatureFault.{FeatureFault}
use Rattle.feature_reader.specs.declared.feature.FeatureFault.TheVariants as fault

-- the bytes, where they are UTF-8
abbrev pub utf8_of : List ℕ → Option (List ℕ)
utf8_of bytes = if is_utf8 bytes then Some bytes else None

-- the field at a place, where there is one and it is UTF-8
abbrev pub text_at : List (List ℕ) → ℕ → Option (List ℕ)
text_at fields place = option_and_then utf8_of (slice_get fields place)

-- the four fields of a row
pub record RowFields : Type 0 where
  pub id : List ℕ
  pub text : List ℕ
  pub zxy : List ℕ
  pub score : List ℕ

-- the fields, where there are four, each UTF-8
abbrev pub row_fields : List (List ℕ) → Option RowFields
row_fields (id ∷ text ∷ zxy ∷ score ∷ []) =
    if is_utf8 id && (is_utf8 text && (is_utf8 zxy && is_utf8 score)) then Some (record { id = id; text = text; zxy = zxy; score = score }) else None
row_fields fields = None

-- a whole number as a row writes it: an optional `-` and 1 to 18 digits
abbrev pub signed_of : List ℕ → Option ℤ
signed_of [] = None
signed_of (b ∷ bs) = if b == 45 then option_map (λ n. neg_ℤ (pos n)) (digits_of 18 bs) else option_map pos (digits_of 18 (b ∷ bs))

-- what is seen of the first field: the number that it is, and nothing where it is none
abbrev pub id_said : List ℕ → Option Shape
id_said text = option_map (λ n. number (unsigned n)) (number_of text)

-- what is seen of the last field: the whole number that it writes, or a text, which is none; nothing where it is empty
abbrev pub score_said : List ℕ → Option Shape
score_said [] = None
score_said (b ∷ bs) = Some (elim (signed_of (b ∷ bs)) [ None ↦ string (b ∷ bs) | Some z ↦ number (of_integer z) ])

-- what the fields say of a feature, as a JSON text says it that has no other members; the tiles are separated by spaces
abbrev pub fields_said : RowFields → Said
fields_said f =
    record {
      id = id_said f.id;
      properties =
          Some
          (record {
            values = record { text = Some (string f.text); score = score_said f.score; relev = None; own = [] };
            tiles = each_of tile_of (words_of f.zxy);
          });
    }

-- what a row says of a feature: nothing where it hasn't four fields or one isn't UTF-8
abbrev pub row_said : List (List ℕ) → Option Said
row_said fields = option_map fields_said (row_fields fields)

-- the feature of a layer that a row stands for, or its first fault
abbrev pub feature_of_row : LayerView → List (List ℕ) → List (List ℕ) → Result FeatureView FeatureFault
feature_of_row layer langs fields = ok_or (row_said fields) fault.Json >>= λ said. feature_in layer langs said
