use Rattle.std.proofs.Common.{◌≡◌, drop}
use Rattle.serde_json.specs.View.{view}
use Rattle.geo_layer.specs.Json.{each_of}
use Rattle.geo_layer.specs.LayerText.{name_of}
use Rattle.geo_layer.proofs.Each.{onto}
use Rattle.geo_layer.proofs.read_layer.names_in.Given as goal

-- the names so far, and what the rest gives
abbrev pub invariant-loop-value : goal.invariant-loop-value
invariant-loop-value l = each_of (λ v. name_of (view v)) l.values ≡ onto l.names (each_of (λ v. name_of (view v)) (drop l.value-index l.values))
