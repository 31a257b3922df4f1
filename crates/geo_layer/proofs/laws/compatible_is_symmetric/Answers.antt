use Rattle.std.specs.Prelude.{slice_get}
use Rattle.geo_layer.proofs.Compatible.{both_compatible-turned}
use Rattle.geo_layer.proofs.laws.compatible_is_symmetric.Goals as goal

pub returns : goal.returns
returns c layers a b = both_compatible-turned (slice_get layers a) (slice_get layers b)
