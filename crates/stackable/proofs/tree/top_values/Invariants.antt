use Rattle.std.proofs.Common.{◌≡◌, ◌≤◌, ◌*◌, take}
use Rattle.std.specs.Prelude.{sum_by}
use Rattle.stackable.specs.Partial.{piece_at}
use Rattle.stackable.proofs.tree.top_values.Given as goal

abbrev pub invariant-loop-k : goal.invariant-loop-k
invariant-loop-k l = (l.sum ≡ sum_by (λ k. (piece_at l.job k).top_value) (take l.k-index l.k-items)) × (l.sum ≤ l.k-index * 4294967296)
