use Rattle.search_core.proofs.MergedFacts.{into_new, into_list}
use Rattle.search_core.proofs.laws.merges_in_turn.Goals as goal

pub returns : goal.returns
returns c = record { into_new = into_new; into_list = into_list }
