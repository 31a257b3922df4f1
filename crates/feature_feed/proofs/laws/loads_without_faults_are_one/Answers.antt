use Rattle.feature_feed.proofs.OneLoad.{one_load}
use Rattle.feature_feed.proofs.laws.loads_without_faults_are_one.Goals as goal

pub returns : goal.returns
returns c = one_load
