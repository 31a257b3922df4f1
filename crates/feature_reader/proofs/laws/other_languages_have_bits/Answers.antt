use Rattle.feature_reader.proofs.LanguageFacts.{listed_bit, unlisted_bit, last_bit}
use Rattle.feature_reader.proofs.laws.other_languages_have_bits.Goals as goal

pub returns : goal.returns
returns c = record { listed = listed_bit; behind = unlisted_bit; unlisted = last_bit }
