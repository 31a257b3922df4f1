use Rattle.std.proofs.Common.{◌≡◌, take}
use Rattle.geo_layer.proofs.layers.Layers.copy.Given as goal

-- the layers so far
abbrev pub invariant-loop-layer : goal.invariant-loop-layer
invariant-loop-layer l = l.list.items ≡ take l.layer-index l.layer-items
