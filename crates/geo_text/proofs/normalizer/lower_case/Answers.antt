use Rattle.std.proofs.Common.{rules}
use Rattle.geo_text.proofs.Joins.{lowered_more}
use Rattle.geo_text.proofs.normalizer.lower_case.Goals as goal

pub loop-b-preserved : goal.loop-b-preserved
loop-b-preserved c = search (rules, lowered_more)
