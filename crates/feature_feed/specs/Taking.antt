-- For private contracts alone: the bytes of a source while they are taken into memory.
use Rattle.std.specs.Prelude.{ℕ, List, ◌++◌, Option, option_map}

-- what was taken and behind it what a source has left, where it tells that
abbrev pub all_bytes : List ℕ → Option (List ℕ) → Option (List ℕ)
all_bytes taken left = option_map (λ rest. taken ++ rest) left
