use Rattle.std.proofs.Common.{refl}
use Rattle.std.specs.Str.{chars, is_utf8}
use Rattle.std.specs.Char.{encode_utf8}
use Rattle.std.specs.Fmt.{digits}
use Rattle.serde_json.proofs.OnLiterals.{serde_json_on_literals}
use Rattle.unicode_normalization.proofs.Computing.{unicode_normalization}
use Rattle.caseless.proofs.Computing.{caseless}
use Rattle.ucd_category.proofs.Computing.{ucd_category}
use Rattle.session_text.proofs.laws.worked_readings.Goals as goal

pub returns : goal.returns
unfolding digits serde_json_on_literals chars is_utf8 encode_utf8 unicode_normalization caseless ucd_category
returns c = record { ended = refl; last_feed = refl; not_ended = refl; unended = refl; nothing = refl; word = refl; number = refl }
