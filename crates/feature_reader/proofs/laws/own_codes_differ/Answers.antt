use Rattle.feature_reader.proofs.OwnCodes.{own_codes_differ}
use Rattle.feature_reader.proofs.laws.own_codes_differ.Goals as goal

pub returns : goal.returns
returns c = record { differ = own_codes_differ }
