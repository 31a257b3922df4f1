-- For private contracts alone: how a partial keeps its piece numbers: at the front of an array of 16, with the first number in all places behind them.
use Rattle.std.specs.Prelude.{◌≡◌, ℕ, ◌-◌, ◌<◌, ◌≤◌, ◌++◌, List, [], ◌∷◌, length, take, replicate}

-- the array of some numbers
abbrev pub filled : List ℕ → List ℕ
filled [] = []
filled (a ∷ rest) = (a ∷ rest) ++ replicate (16 - length (a ∷ rest)) a

-- the array holds 1 to 16 numbers, so many
pub record IsFilled (numbers : List ℕ) (len : ℕ) : Type 0 where
  pub some : 0 < len
  pub full : length numbers ≡ 16
  pub within : len ≤ 16
  pub filled : filled (take len numbers) ≡ numbers
