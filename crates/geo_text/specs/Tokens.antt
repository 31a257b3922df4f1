-- The tokens of a text, their replacement, and the tokens as a text.
use Rattle.std.specs.Prelude.{ℕ, Bool, List, ◌&&◌, not, nat_le, nat_lt, map, filter, length, chars, encode_utf8_all, bytes_eq, Option, Some, None, unwrap_or, if◌then◌else◌, All}
use Rattle.std.specs.List.{slice_split, join_with_byte, list_all}
use Rattle.std.specs.List.Sorted.{IsStrictlySortedBy}
use Rattle.std.specs.Ordering.{nat_cmp}
use Rattle.std.specs.Cmp.Lexicographic.{slice_cmp}
use Rattle.std.specs.Map.{lookup, keys_of}
use Rattle.geo_text.specs.Normal.{normal_chars, is_token_char}
use Rattle.geo_text.specs.Words.{is_not_empty, IsWord}

-- the maximal runs of characters that pass the test
abbrev pub runs : (ℕ → Bool) → List ℕ → List (List ℕ)
runs p cs = filter is_not_empty (slice_split (λ c. not (p c)) cs)

-- the tokens of a text: the maximal runs of letters, marks and numbers in its normal form
abbrev pub tokens_of : List ℕ → List (List ℕ)
tokens_of text = map encode_utf8_all (runs is_token_char (normal_chars (chars text)))

-- tokens and what each is replaced by, rising by the token
abbrev pub Replacements : Type 0
Replacements = List (List ℕ × List ℕ)

-- each token and what it is replaced by is a word
abbrev pub AreWords : Replacements → Type 0
AreWords replacements = All (λ r. IsWord r.0 × IsWord r.1) replacements

-- the tokens rise, byte by byte
abbrev pub Rise : Replacements → Type 0
Rise replacements = IsStrictlySortedBy (slice_cmp nat_cmp) (keys_of replacements)

-- what the token is replaced by, where it is
abbrev pub replacement : Replacements → List ℕ → Option (List ℕ)
replacement replacements token = lookup (bytes_eq token) replacements

-- each whole token that has a replacement is replaced, once
abbrev pub replaced : Replacements → List (List ℕ) → List (List ℕ)
replaced replacements tokens = map (λ token. unwrap_or (replacement replacements token) token) tokens

-- the tokens with one space between them
abbrev pub joined : List (List ℕ) → List ℕ
joined tokens = join_with_byte 32 tokens

-- a phrase and a query have 1 to 20 tokens
abbrev pub are_some_tokens : List (List ℕ) → Bool
are_some_tokens tokens = nat_le 1 (length tokens) && nat_le (length tokens) 20

-- 1 to 20 tokens as one text
abbrev pub phrase_of : List (List ℕ) → Option (List ℕ)
phrase_of tokens = if are_some_tokens tokens then Some (joined tokens) else None

-- each byte is below 128
abbrev pub is_ascii : List ℕ → Bool
is_ascii text = list_all (λ b. nat_lt b 128) text
