use Rattle.std.proofs.Common.{◌≡◌}
use Rattle.std.specs.Prelude.{option_and_then}
use Rattle.serde_json.specs.View.{members_view}
use Rattle.geo_layer.specs.LayerText.{pairs_of, distinct_pairs}
use Rattle.geo_layer.proofs.TokenFacts.{onward}
use Rattle.geo_layer.proofs.read_layer.map_of.Given as goal

-- the pairs so far, and what the members that are left add
abbrev pub invariant-loop-key : goal.invariant-loop-key
invariant-loop-key l = onward l.map (members_view l.key-iterator) ≡ option_and_then distinct_pairs (pairs_of (members_view l.members.entries))
