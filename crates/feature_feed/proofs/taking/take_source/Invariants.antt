use Rattle.std.proofs.Common.{◌≡◌, ◌-◌, length}
use Rattle.geo_outside.specs.Device.{most_bytes}
use Rattle.feature_feed.specs.Taking.{all_bytes}
use Rattle.feature_feed.proofs.taking.take_source.Given as goal

-- nothing was lost, and nothing failed so far
abbrev pub invariant-loop-block : goal.invariant-loop-block
invariant-loop-block g l = record {
  bytes : all_bytes l.taken.items l.source.left ≡ all_bytes l.fn.taken.items l.fn.source.left;
  faults : l.source.faults ≡ l.fn.source.faults;
}

abbrev pub decreases-loop-block : goal.decreases-loop-block
decreases-loop-block g l = most_bytes - length l.taken.items
