-- For private contracts alone: what a source shows that is followed from its beginning.
use Rattle.std.specs.Prelude.{ℕ, List, Option, Some, None}

-- the bytes that are left, where the source told them from the beginning on; and how many reads have failed
pub record SteadyView : Type 0 where
  pub left : Option (List ℕ)
  pub faults : ℕ

-- what is told now counts where something was told at the beginning
abbrev pub steady_left : Option (List ℕ) → Option (List ℕ) → Option (List ℕ)
steady_left None now = None
steady_left (Some first) now = now
