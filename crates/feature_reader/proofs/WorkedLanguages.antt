-- Worked features with texts in languages, computed from the definitions.
use Rattle.std.proofs.Common.{◌≡◌, ◌-◌, ◌∷◌, [], refl, Ok}
use Rattle.std.specs.Prelude.{codes}
use Rattle.std.specs.Str.{chars, is_utf8}
use Rattle.std.specs.Char.{encode_utf8}
use Rattle.serde_json.proofs.OnLiterals.{serde_json_on_literals}
use Rattle.unicode_normalization.proofs.Computing.{unicode_normalization}
use Rattle.caseless.proofs.Computing.{caseless}
use Rattle.ucd_category.proofs.Computing.{ucd_category}
use Rattle.feature_reader.specs.Languages.{all_languages}
use Rattle.feature_reader.specs.Examples.{read_with_german, read_with_two, phrase_in, named}

pub two_languages : read_with_two (codes "{\"id\":1,\"properties\":{\"carmen:text\":\"a\",\"carmen:text_fr\":\"b\",\"carmen:text_en\":\"c\",\"carmen:zxy\":[\"6/0/0\"]}}") ≡ Ok (named (phrase_in (all_languages - 3) 100 (codes "a") ∷ phrase_in 2 100 (codes "c") ∷ phrase_in 1 100 (codes "b") ∷ []))
unfolding serde_json_on_literals chars is_utf8 encode_utf8 unicode_normalization caseless ucd_category
two_languages = refl

pub unlisted_beside_listed : read_with_german (codes "{\"id\":1,\"properties\":{\"carmen:text\":\"a\",\"carmen:text_de\":\"b\",\"carmen:text_fr\":\"c\",\"carmen:zxy\":[\"6/0/0\"]}}") ≡ Ok (named (phrase_in (all_languages - 1) 100 (codes "a") ∷ phrase_in 1 100 (codes "b") ∷ phrase_in 0 100 (codes "c") ∷ []))
unfolding serde_json_on_literals chars is_utf8 encode_utf8 unicode_normalization caseless ucd_category
unlisted_beside_listed = refl
