use Rattle.std.proofs.Common.{refl}
use Rattle.std.specs.Str.{chars}
use Rattle.std.specs.Char.{encode_utf8}
use Rattle.unicode_normalization.proofs.Computing.{unicode_normalization}
use Rattle.caseless.proofs.Computing.{caseless}
use Rattle.ucd_category.proofs.Computing.{ucd_category}
use Rattle.geo_text.proofs.laws.worked_texts.Goals as goal

pub returns : goal.returns
unfolding chars encode_utf8 unicode_normalization caseless ucd_category
returns c = record {
  normal_form = refl;
  normal_accent = refl;
  accent = refl;
  one_mark_apart = refl;
  sharp_s = refl;
  breaks = refl;
  ligature = refl;
  capitals = refl;
  final_sigma = refl;
  tonos = refl;
  syllable = refl;
  vowel_marks = refl;
  digits = refl;
  picture = refl;
  apostrophe = refl;
}
