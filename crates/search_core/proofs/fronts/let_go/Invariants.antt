use Rattle.std.proofs.Common.{◌≡◌, length, take}
use Rattle.search_core.proofs.fronts.let_go.Given as goal

abbrev pub invariant-loop-list : goal.invariant-loop-list
invariant-loop-list l = take l.n l.list.items ≡ take l.n l.fn.list.items

abbrev pub decreases-loop-list : goal.decreases-loop-list
decreases-loop-list l = length l.list.items
