use Rattle.std.proofs.Common.{◌≡◌, map}
use Rattle.stackable.specs.Partial.{numbers_below}
use Rattle.stackable.specs.RootOrder.{root_of}
use Rattle.stackable.proofs.roots.bounds_of.Given as goal

abbrev pub invariant-loop-k : goal.invariant-loop-k
invariant-loop-k l = l.list.items ≡ map (root_of l.job) (numbers_below l.k)
