use Rattle.std.proofs.Common.{refl}
use Rattle.std.specs.Str.{chars, is_utf8}
use Rattle.std.specs.Char.{encode_utf8}
use Rattle.std.specs.Fmt.{digits}
use Rattle.serde_json.proofs.OnLiterals.{serde_json_on_literals}
use Rattle.unicode_normalization.proofs.Computing.{unicode_normalization}
use Rattle.caseless.proofs.Computing.{caseless}
use Rattle.ucd_category.proofs.Computing.{ucd_category}
use Rattle.geo_layer.proofs.laws.worked_layers.Goals as goal

pub returns : goal.returns
unfolding digits serde_json_on_literals chars is_utf8 encode_utf8 unicode_normalization caseless ucd_category
returns c = record { falling = refl; capital = refl; no_object = refl; seventeenth = refl; high_zoom = refl; point = refl; stack_word = refl; stacked = refl; one_token_twice = refl; no_scale = refl; street = refl; greek = refl }
