use Rattle.feature_reader.proofs.LanguageFacts.{listed_set, listed_place, unlisted_set, unlisted_place}
use Rattle.feature_reader.proofs.laws.a_language_has_its_bit.Goals as goal

pub returns : goal.returns
returns c = record { listed_set = listed_set; listed_bit = listed_place; unlisted_set = unlisted_set; unlisted_bit = unlisted_place }
