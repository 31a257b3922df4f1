use Rattle.std.proofs.Common.{refl}
use Rattle.std.specs.Str.{chars}
use Rattle.std.specs.Char.{encode_utf8}
use Rattle.unicode_normalization.proofs.Computing.{unicode_normalization}
use Rattle.caseless.proofs.Computing.{caseless}
use Rattle.ucd_category.proofs.Computing.{ucd_category}
use Rattle.geo_query.proofs.laws.worked_lengths.Goals as goal

pub returns : goal.returns
unfolding chars encode_utf8 unicode_normalization caseless ucd_category
returns c = record { longest = refl; too_long = refl }
