use Rattle.std.proofs.Common.{◌≡◌, [], ◌∷◌, map, take}
use Rattle.stackable.proofs.bounded.bounded_roots.Given as goal

abbrev pub invariant-loop-root : goal.invariant-loop-root
invariant-loop-root l = l.list.items ≡ map (λ r. record { partial = r.piece ∷ []; bound = r.bound }) (take l.root-index l.root-items)
