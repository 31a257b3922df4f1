use Rattle.std.proofs.Common.{◌≡◌, ◌≤◌, ◌*◌, ◌^◌, take, length}
use Rattle.std.specs.Prelude.{sum_by}
use Rattle.session_text.proofs.write.total.Given as goal

-- the sum of the values so far
abbrev pub invariant-loop-link : goal.invariant-loop-link
invariant-loop-link l = record { sum : l.sum ≡ sum_by (λ v. v.value) (take l.link-index l.links); bound : l.sum ≤ 2 ^ 32 * l.link-index; few : length l.links ≤ 16 }
