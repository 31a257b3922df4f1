use Rattle.std.proofs.Common.{◌≡◌, length}
use denote.Text.{Utf8}
use denote.Shadow.{shadow}
use Rattle.geo_text.specs.Words.{skip_spaces}
use Rattle.geo_text.proofs.cut.skip_spaces_of.Given as goal

-- the spaces so far are skipped
abbrev pub invariant-loop-more : goal.invariant-loop-more
invariant-loop-more l = shadow (Utf8 l.rest) × (skip_spaces l.fn.text ≡ skip_spaces l.rest)

abbrev pub decreases-loop-more : goal.decreases-loop-more
decreases-loop-more l = length l.rest
