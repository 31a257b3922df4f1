use Rattle.std.proofs.Common.{◌≡◌, length}
use Rattle.geo_text.specs.Words.{skip_spaces}
use Rattle.geo_text.proofs.cut.skip_spaces.Given as goal

-- the spaces so far are skipped
abbrev pub invariant-loop-rest : goal.invariant-loop-rest
invariant-loop-rest l = skip_spaces l.fn.text ≡ skip_spaces l.rest

abbrev pub decreases-loop-rest : goal.decreases-loop-rest
decreases-loop-rest l = length l.rest
