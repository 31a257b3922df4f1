-- Numbers as digits.
use Rattle.std.specs.Prelude.{ℕ, ◌+◌, ◌-◌, ◌*◌, List, [], ◌∷◌, ◌&&◌, ◌==◌, nat_lt, nat_le, length, fold, if◌then◌else◌, Option, Some, None, option_and_then}
use Rattle.std.specs.Char.{is_ascii_digit}
use Rattle.std.specs.List.{list_all, slice_split}

-- the value of these digits
abbrev pub digits_value : List ℕ → ℕ
digits_value digits = fold (λ n d. n * 10 + (d - 48)) 0 digits

-- the number that 1 digit or more spell, but not more than a bound, leading zeros allowed
abbrev pub digits_of : ℕ → List ℕ → Option ℕ
digits_of most text = if nat_le 1 (length text) && (nat_le (length text) most && list_all is_ascii_digit text) then Some (digits_value text) else None

-- a number is 1 to 10 digits, leading zeros allowed
abbrev pub number_of : List ℕ → Option ℕ
number_of text = digits_of 10 text

-- the number, where it is below the bound
abbrev pub below : ℕ → ℕ → Option ℕ
below bound n = if nat_lt n bound then Some n else None

-- the numbers that these fields spell, where each spells one
abbrev pub numbers_of : List (List ℕ) → Option (List ℕ)
numbers_of [] = Some []
numbers_of (field ∷ fields) = option_and_then (λ n. option_and_then (λ ns. Some (n ∷ ns)) (numbers_of fields)) (number_of field)

-- the numbers of a text, with a slash between each two
abbrev pub slashed : List ℕ → Option (List ℕ)
slashed text = numbers_of (slice_split (λ b. b == 47) text)
