use Rattle.std.proofs.Common.{take}
use Rattle.stackable.specs.Room.{IsRoom}
use Rattle.stackable.proofs.room.Room.of.Given as goal

abbrev pub invariant-loop-k : goal.invariant-loop-k
invariant-loop-k l = IsRoom l.job (take l.k-index l.k-items) l.room.taken l.room.layers
