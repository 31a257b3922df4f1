-- Worked rows, computed from the definitions.
use Rattle.std.proofs.Common.{◌≡◌, ◌∷◌, [], refl, Ok, Err}
use Rattle.std.specs.Prelude.{codes}
use Rattle.std.specs.Str.{chars, is_utf8}
use Rattle.std.specs.Char.{encode_utf8}
use Rattle.unicode_normalization.proofs.Computing.{unicode_normalization}
use Rattle.caseless.proofs.Computing.{caseless}
use Rattle.ucd_category.proofs.Computing.{ucd_category}
use Rattle.feature_reader.specs.Examples.{read_row, row, row_of_id, row_of_tiles, row_of_score, row_feature, paris}
use Rattle.feature_reader.specs.declared.feature.FeatureFault.TheVariants as fault

pub paris_is : read_row (row (codes "7") (codes "Paris,Lutece") (codes "6/1/1 6/2/1") (codes "15")) ≡ Ok paris
unfolding chars is_utf8 encode_utf8 unicode_normalization caseless ucd_category
paris_is = refl

pub no_number : read_row (row (codes "x") (codes "Rome") (codes "6/1/1") (codes "1")) ≡ Err fault.Id
unfolding chars is_utf8 encode_utf8 unicode_normalization caseless ucd_category
no_number = refl

pub three_fields : read_row ((codes "7") ∷ (codes "Rome") ∷ (codes "6/1/1") ∷ []) ≡ Err fault.Json
unfolding chars is_utf8 encode_utf8 unicode_normalization caseless ucd_category
three_fields = refl

pub five_fields : read_row ((codes "7") ∷ (codes "Rome") ∷ (codes "6/1/1") ∷ (codes "1") ∷ [] ∷ []) ≡ Err fault.Json
unfolding chars is_utf8 encode_utf8 unicode_normalization caseless ucd_category
five_fields = refl

pub no_fields : read_row [] ≡ Err fault.Json
unfolding chars is_utf8 encode_utf8 unicode_normalization caseless ucd_category
no_fields = refl

pub id_no_utf8 : read_row (row (0xC3 ∷ 0x28 ∷ []) (codes "Rome") (codes "6/1/1") (codes "1")) ≡ Err fault.Json
unfolding chars is_utf8 encode_utf8 unicode_normalization caseless ucd_category
id_no_utf8 = refl

pub text_no_utf8 : read_row (row (codes "x") (0xC3 ∷ 0x28 ∷ []) (codes "6/1/1") (codes "1")) ≡ Err fault.Json
unfolding chars is_utf8 encode_utf8 unicode_normalization caseless ucd_category
text_no_utf8 = refl

pub score_no_utf8 : read_row (row (codes "x") (codes "Rome") (codes "6/1/1") (0xC3 ∷ 0x28 ∷ [])) ≡ Err fault.Json
unfolding chars is_utf8 encode_utf8 unicode_normalization caseless ucd_category
score_no_utf8 = refl

pub highest_id : read_row (row_of_id (codes "0067108863")) ≡ Ok (row_feature 67108863 0)
unfolding chars is_utf8 encode_utf8 unicode_normalization caseless ucd_category
highest_id = refl

pub large_id : read_row (row_of_id (codes "67108864")) ≡ Err fault.Id
unfolding chars is_utf8 encode_utf8 unicode_normalization caseless ucd_category
large_id = refl

pub long_id : read_row (row_of_id (codes "00000000007")) ≡ Err fault.Id
unfolding chars is_utf8 encode_utf8 unicode_normalization caseless ucd_category
long_id = refl

pub empty_id : read_row (row_of_id []) ≡ Err fault.Id
unfolding chars is_utf8 encode_utf8 unicode_normalization caseless ucd_category
empty_id = refl

pub no_tiles : read_row (row_of_tiles []) ≡ Err fault.Zxy
unfolding chars is_utf8 encode_utf8 unicode_normalization caseless ucd_category
no_tiles = refl

pub blank_tiles : read_row (row_of_tiles (codes "  ")) ≡ Err fault.Zxy
unfolding chars is_utf8 encode_utf8 unicode_normalization caseless ucd_category
blank_tiles = refl

pub broken_tile : read_row (row_of_tiles (codes "6/0/0 6/0")) ≡ Err fault.Zxy
unfolding chars is_utf8 encode_utf8 unicode_normalization caseless ucd_category
broken_tile = refl

pub repeated_tile : read_row (row_of_tiles (codes " 6/0/0  6/0/0")) ≡ Ok (row_feature 1 0)
unfolding chars is_utf8 encode_utf8 unicode_normalization caseless ucd_category
repeated_tile = refl

pub other_zoom : read_row (row_of_tiles (codes "7/0/0")) ≡ Err fault.Zoom
unfolding chars is_utf8 encode_utf8 unicode_normalization caseless ucd_category
other_zoom = refl

pub empty_score : read_row (row_of_score []) ≡ Ok (row_feature 1 0)
unfolding chars is_utf8 encode_utf8 unicode_normalization caseless ucd_category
empty_score = refl

pub score_zero : read_row (row_of_score (codes "-0")) ≡ Ok (row_feature 1 0)
unfolding chars is_utf8 encode_utf8 unicode_normalization caseless ucd_category
score_zero = refl

pub below_zero : read_row (row_of_score (codes "-5")) ≡ Ok (row_feature 1 0)
unfolding chars is_utf8 encode_utf8 unicode_normalization caseless ucd_category
below_zero = refl

pub broken_score : read_row (row_of_score (codes "1.5")) ≡ Err fault.Score
unfolding chars is_utf8 encode_utf8 unicode_normalization caseless ucd_category
broken_score = refl

pub plus_score : read_row (row_of_score (codes "+1")) ≡ Err fault.Score
unfolding chars is_utf8 encode_utf8 unicode_normalization caseless ucd_category
plus_score = refl

pub minus_alone : read_row (row_of_score (codes "-")) ≡ Err fault.Score
unfolding chars is_utf8 encode_utf8 unicode_normalization caseless ucd_category
minus_alone = refl

pub eighteen_digits : read_row (row_of_score (codes "999999999999999999")) ≡ Ok (row_feature 1 15)
unfolding chars is_utf8 encode_utf8 unicode_normalization caseless ucd_category
eighteen_digits = refl

pub nineteen_digits : read_row (row_of_score (codes "0000000000000000001")) ≡ Err fault.Score
unfolding chars is_utf8 encode_utf8 unicode_normalization caseless ucd_category
nineteen_digits = refl
