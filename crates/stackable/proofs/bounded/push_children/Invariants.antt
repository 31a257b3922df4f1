use Rattle.std.proofs.Common.{◌≡◌, ◌≤◌, ◌++◌, length, take, map, reverse, vec_capacity}
use Rattle.stackable.specs.Partial.{children}
use Rattle.stackable.specs.Bounded.{with_bound}
use Rattle.stackable.proofs.ChildFacts.{children_below}
use Rattle.stackable.proofs.bounded.push_children.Given as goal

abbrev pub invariant-loop-k : goal.invariant-loop-k
invariant-loop-k l = record {
  inside : l.k ≤ length l.job.pieces;
  put : l.list.items ++ reverse (children_below l.job l.p l.k) ≡ l.fn.list.items ++ reverse (map (with_bound l.job) (children l.job l.p));
  front : take (length l.fn.list.items) l.list.items ≡ l.fn.list.items;
  capacity : vec_capacity l.fn.list ≤ vec_capacity l.list;
}

abbrev pub decreases-loop-k : goal.decreases-loop-k
decreases-loop-k l = l.k
