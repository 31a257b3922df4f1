use Rattle.std.proofs.Common.{rules}
use Rattle.top_list.proofs.ShelfFacts.{shelf_empty}
use Rattle.top_list.proofs.TopList.new.Goals as goal

pub invariant_of-result : goal.invariant_of-result
invariant_of-result c = (search rules, search rules, rw (c.in_ok-list.ensures.items, c.new.ensures) shelf_empty)
