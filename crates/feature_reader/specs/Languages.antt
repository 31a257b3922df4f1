-- Sets of languages: a number below 2^128, with bit k for the k-th listed language and bit 127 for all others.
use Rattle.std.specs.Prelude.{ℕ, ◌-◌, ◌^◌, List, bytes_eq, fold, position, Some, option_and_then, unwrap_or}

-- all 128 languages
abbrev pub all_languages : ℕ
all_languages = 2 ^ 128 - 1

-- the bit of a listed language; none where it isn't listed
abbrev pub bits_of : List (List ℕ) → List ℕ → ℕ
bits_of langs code = unwrap_or (option_and_then (λ k. Some (2 ^ k)) (position (bytes_eq code) langs)) 0

-- all languages but those of these codes, which all differ
abbrev pub other_languages : List (List ℕ) → List (List ℕ) → ℕ
other_languages langs codes = fold (λ set code. set - bits_of langs code) all_languages codes
