use Rattle.std.proofs.Common.{length}
use Rattle.plain_answer.proofs.matching.+after_run.Given as goal

-- the tokens that are left
abbrev pub decreases-after_run : goal.decreases-after_run
decreases-after_run l = length l.tokens.now
