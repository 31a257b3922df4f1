use Rattle.std.proofs.Common.{◌≡◌, length}
use Rattle.carmen.proofs.run.Given as goal

-- one feed for each file that was opened
abbrev pub invariant-loop-n : goal.invariant-loop-n
invariant-loop-n g l = length l.feeds.items ≡ l.n
