-- Worked features, computed from the definitions.
use Rattle.std.proofs.Common.{◌≡◌, ◌-◌, ◌∷◌, [], refl, Ok, Err}
use Rattle.std.specs.Prelude.{codes}
use Rattle.std.specs.Str.{chars, is_utf8}
use Rattle.std.specs.Char.{encode_utf8}
use Rattle.serde_json.proofs.OnLiterals.{serde_json_on_literals}
use Rattle.unicode_normalization.proofs.Computing.{unicode_normalization}
use Rattle.caseless.proofs.Computing.{caseless}
use Rattle.ucd_category.proofs.Computing.{ucd_category}
use Rattle.feature_reader.specs.Languages.{all_languages}
use Rattle.feature_reader.specs.Examples.{read, read_with_german, phrase_in, phrase_at, new_york_text, new_york, named}
use Rattle.feature_reader.specs.declared.feature.FeatureFault.TheVariants as fault

pub no_id : read (codes "{\"properties\":{}}") ≡ Err fault.Id
unfolding serde_json_on_literals chars is_utf8 encode_utf8
no_id = refl

pub large_id : read (codes "{\"id\":67108864,\"properties\":{}}") ≡ Err fault.Id
unfolding serde_json_on_literals chars is_utf8 encode_utf8
large_id = refl

pub no_tiles : read (codes "{\"id\":1,\"properties\":{\"carmen:text\":\"a\"}}") ≡ Err fault.Zxy
unfolding serde_json_on_literals chars is_utf8 encode_utf8
no_tiles = refl

pub other_zoom : read (codes "{\"id\":1,\"properties\":{\"carmen:text\":\"a\",\"carmen:zxy\":[\"7/0/0\"]}}") ≡ Err fault.Zoom
unfolding serde_json_on_literals chars is_utf8 encode_utf8
other_zoom = refl

pub no_tile : read (codes "{\"id\":1,\"properties\":{\"carmen:text\":\"a\",\"carmen:zxy\":[\"6/64/0\"]}}") ≡ Err fault.Zxy
unfolding serde_json_on_literals chars is_utf8 encode_utf8
no_tile = refl

pub unfinished : read (codes "{\"id\":1") ≡ Err fault.Json
unfolding serde_json_on_literals chars is_utf8 encode_utf8
unfinished = refl

pub good : read new_york_text ≡ Ok new_york
unfolding serde_json_on_literals chars is_utf8 encode_utf8 unicode_normalization caseless ucd_category
good = refl

pub below_zero : read (codes "{\"id\":1,\"properties\":{\"carmen:text\":\"a\",\"carmen:zxy\":[\"6/0/0\"],\"carmen:score\":-3}}") ≡ Ok (named (phrase_at 100 (codes "a") ∷ []))
unfolding serde_json_on_literals chars is_utf8 encode_utf8 unicode_normalization caseless ucd_category
below_zero = refl

pub broken_score : read (codes "{\"id\":1,\"properties\":{\"carmen:text\":\"a\",\"carmen:zxy\":[\"6/0/0\"],\"carmen:score\":1.5}}") ≡ Err fault.Score
unfolding serde_json_on_literals chars is_utf8 encode_utf8
broken_score = refl

pub other_relevance : read (codes "{\"id\":1,\"properties\":{\"carmen:text\":\"a\",\"carmen:zxy\":[\"6/0/0\"],\"carmen:relev\":50}}") ≡ Err fault.Relev
unfolding serde_json_on_literals chars is_utf8 encode_utf8
other_relevance = refl

pub two_parts : read (codes "{\"id\":1,\"properties\":{\"carmen:text\":\"New York,NYC\",\"carmen:zxy\":[\"6/0/0\"]}}") ≡ Ok (named (phrase_at 100 (codes "new york") ∷ phrase_at 80 (codes "nyc") ∷ []))
unfolding serde_json_on_literals chars is_utf8 encode_utf8 unicode_normalization caseless ucd_category
two_parts = refl

pub empty_part : read (codes "{\"id\":1,\"properties\":{\"carmen:text\":\"a,,b\",\"carmen:zxy\":[\"6/0/0\"]}}") ≡ Ok (named (phrase_at 100 (codes "a") ∷ phrase_at 80 (codes "b") ∷ []))
unfolding serde_json_on_literals chars is_utf8 encode_utf8 unicode_normalization caseless ucd_category
empty_part = refl

pub repeated_part : read (codes "{\"id\":1,\"properties\":{\"carmen:text\":\"a,a,a\",\"carmen:zxy\":[\"6/0/0\"]}}") ≡ Ok (named (phrase_at 100 (codes "a") ∷ phrase_at 80 (codes "a") ∷ []))
unfolding serde_json_on_literals chars is_utf8 encode_utf8 unicode_normalization caseless ucd_category
repeated_part = refl

pub listed_language : read_with_german (codes "{\"id\":1,\"properties\":{\"carmen:text\":\"a\",\"carmen:text_de\":\"b\",\"carmen:zxy\":[\"6/0/0\"]}}") ≡ Ok (named (phrase_in (all_languages - 1) 100 (codes "a") ∷ phrase_in 1 100 (codes "b") ∷ []))
unfolding serde_json_on_literals chars is_utf8 encode_utf8 unicode_normalization caseless ucd_category
listed_language = refl

pub unlisted_language : read (codes "{\"id\":1,\"properties\":{\"carmen:text\":\"a\",\"carmen:text_de\":\"b\",\"carmen:zxy\":[\"6/0/0\"]}}") ≡ Ok (named (phrase_at 100 (codes "a") ∷ phrase_in 0 100 (codes "b") ∷ []))
unfolding serde_json_on_literals chars is_utf8 encode_utf8 unicode_normalization caseless ucd_category
unlisted_language = refl

pub broken_language : read (codes "{\"id\":1,\"properties\":{\"carmen:text\":\"a\",\"carmen:text_de\":1}}") ≡ Err fault.Text
unfolding serde_json_on_literals chars is_utf8 encode_utf8
broken_language = refl

pub low_relevance : read (codes "{\"id\":1,\"properties\":{\"carmen:text\":\"a,b\",\"carmen:zxy\":[\"6/0/0\"],\"carmen:relev\":40}}") ≡ Ok (named (phrase_at 40 (codes "a") ∷ phrase_at 40 (codes "b") ∷ []))
unfolding serde_json_on_literals chars is_utf8 encode_utf8 unicode_normalization caseless ucd_category
low_relevance = refl
