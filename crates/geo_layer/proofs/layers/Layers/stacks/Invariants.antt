use Rattle.geo_layer.proofs.StackBits.{AreStacksUpTo}
use Rattle.geo_layer.proofs.layers.Layers.stacks.Given as goal

-- the rows so far, and none after them
abbrev pub invariant-loop-a : goal.invariant-loop-a
invariant-loop-a l = AreStacksUpTo l.self l.a l.stacks
