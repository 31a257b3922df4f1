use Rattle.geo_layer.proofs.StackBits.{AreBits}
use Rattle.geo_layer.proofs.stacks.row_of.Given as goal

-- the bits so far, and none after them
abbrev pub invariant-loop-b : goal.invariant-loop-b
invariant-loop-b l = AreBits l.layers l.a l.b l.row
