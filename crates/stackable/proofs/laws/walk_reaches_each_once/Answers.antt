use Rattle.stackable.proofs.WalkFacts.{each_is_reached, reached_once}
use Rattle.stackable.proofs.laws.walk_reaches_each_once.Goals as goal

pub returns : goal.returns
returns c = record { each = each_is_reached; once = reached_once }
