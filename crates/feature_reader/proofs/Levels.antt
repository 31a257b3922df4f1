-- The level of a score.
use Rattle.std.proofs.Common.{◌≡◌, ◌≤◌, ◌+◌, ◌-◌, ◌*◌, ◌/◌, ℕ, ℤ, pos, negsuc, true, arith}
use Rattle.std.specs.Prelude.{int_le}
use Rattle.std.proofs.lemmas.Nat.{le-div}
use Rattle.std.proofs.lemmas.Bool.Decides.{nat_tests}
use Rattle.feature_reader.specs.Feature.{level}

-- the highest level is that of a score that reaches the scale
pub top_level : (scoremax : ℕ) (score : ℤ) → 1 ≤ scoremax → int_le (pos scoremax) score ≡ true → 15 ≡ level scoremax score
top_level scoremax (pos n) some reached =
    let low : scoremax ≤ n = grind (arith, nat_tests) in
    let high : 15 ≤ (15 * n + (scoremax - 1)) / scoremax = le-div 15 (15 * n + (scoremax - 1)) scoremax (omega (arith, some)) (omega (arith, low)) in
    grind (arith, nat_tests)
top_level scoremax (negsuc n) some reached = cc
