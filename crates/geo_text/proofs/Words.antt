-- A token is a word: it isn't empty, and no byte of it is a space.
use Rattle.std.proofs.Common.{◌≡◌, ◌≢◌, ◌∙◌, ◌+◌, ◌/◌, ◌%◌, ◌<◌, ℕ, true, false, cond, not, List, [], ◌∷◌, ◌++◌, length, map, filter, nat_lt, refl, sym, ap, arith, encode_utf8_all, chars, length-append, All}
use Rattle.std.specs.Char.{encode_utf8}
use Rattle.std.specs.List.{AllByRecursion, slice_split, onto_first}
use Rattle.ucd_category.proofs.Computing.{ucd_category}
use Rattle.geo_text.proofs.Lists.{all_indexed}
use Rattle.geo_text.specs.Normal.{is_token_char, normal_chars}
use Rattle.geo_text.specs.Tokens.{tokens_of}
use Rattle.geo_text.specs.Words.{IsWord, is_not_empty}

-- none is a space
abbrev NoSpace : List ℕ → Type 0
NoSpace bs = AllByRecursion (λ b. b ≢ 32) bs

no_space-append : (xs ys : List ℕ) → NoSpace xs → NoSpace ys → NoSpace (xs ++ ys)
no_space-append [] ys h k = k
no_space-append (x ∷ xs) ys h k = (h.0, no_space-append xs ys h.1 k)

-- the bytes of a character that is no space
no_space-encode : (c : ℕ) → c ≢ 32 → NoSpace (encode_utf8 c) × (0 < length (encode_utf8 c))
unfolding encode_utf8
no_space-encode c h =
    elim (nat_lt c 128) as (λ b. NoSpace (cond b (c ∷ []) (cond (nat_lt c 2048) ((192 + c / 64) ∷ (128 + c % 64) ∷ []) (cond (nat_lt c 65536) ((224 + c / 4096) ∷ (128 + c / 64 % 64) ∷ (128 + c % 64) ∷ []) ((240 + c / 262144) ∷ (128 + c / 4096 % 64) ∷ (128 + c / 64 % 64) ∷ (128 + c % 64) ∷ []))))
    × (0 < length (cond b (c ∷ []) (cond (nat_lt c 2048) ((192 + c / 64) ∷ (128 + c % 64) ∷ []) (cond (nat_lt c 65536) ((224 + c / 4096) ∷ (128 + c / 64 % 64) ∷ (128 + c % 64) ∷ []) ((240 + c / 262144) ∷ (128 + c / 4096 % 64) ∷ (128 + c / 64 % 64) ∷ (128 + c % 64) ∷ [])))))) [
      | true ↦ ((h, tt), omega arith)
      | false ↦ elim (nat_lt c 2048) as (λ b. NoSpace (cond b ((192 + c / 64) ∷ (128 + c % 64) ∷ []) (cond (nat_lt c 65536) ((224 + c / 4096) ∷ (128 + c / 64 % 64) ∷ (128 + c % 64) ∷ []) ((240 + c / 262144) ∷ (128 + c / 4096 % 64) ∷ (128 + c / 64 % 64) ∷ (128 + c % 64) ∷ [])))
          × (0 < length (cond b ((192 + c / 64) ∷ (128 + c % 64) ∷ []) (cond (nat_lt c 65536) ((224 + c / 4096) ∷ (128 + c / 64 % 64) ∷ (128 + c % 64) ∷ []) ((240 + c / 262144) ∷ (128 + c / 4096 % 64) ∷ (128 + c / 64 % 64) ∷ (128 + c % 64) ∷ []))))) [
            | true ↦ ((above 192 _ (omega arith), (above 128 _ (omega arith), tt)), omega arith)
            | false ↦ elim (nat_lt c 65536) as (λ b. NoSpace (cond b ((224 + c / 4096) ∷ (128 + c / 64 % 64) ∷ (128 + c % 64) ∷ []) ((240 + c / 262144) ∷ (128 + c / 4096 % 64) ∷ (128 + c / 64 % 64) ∷ (128 + c % 64) ∷ []))
                × (0 < length (cond b ((224 + c / 4096) ∷ (128 + c / 64 % 64) ∷ (128 + c % 64) ∷ []) ((240 + c / 262144) ∷ (128 + c / 4096 % 64) ∷ (128 + c / 64 % 64) ∷ (128 + c % 64) ∷ [])))) [
                  | true ↦ ((above 224 _ (omega arith), (above 128 _ (omega arith), (above 128 _ (omega arith), tt))), omega arith)
                  | false ↦ ((above 240 _ (omega arith), (above 128 _ (omega arith), (above 128 _ (omega arith), (above 128 _ (omega arith), tt)))), omega arith)
                ]
          ]
    ]
  where
    above : (n m : ℕ) → 32 < n → n + m ≢ 32
    above n m low e = omega (arith, low, e)

-- a space is no token character
space_is_none : is_token_char 32 ≡ false
unfolding ucd_category
space_is_none = refl

token_char : (c : ℕ) → is_token_char c ≡ true → c ≢ 32
token_char c is e = let bad : true ≡ false = sym is ∙ (ap is_token_char e ∙ space_is_none) in cc

-- each character is a token character
abbrev AllTokenChars : List ℕ → Type 0
AllTokenChars cs = AllByRecursion (λ c. is_token_char c ≡ true) cs

no_space-encode_all : (cs : List ℕ) → AllTokenChars cs → NoSpace (encode_utf8_all cs)
no_space-encode_all [] h = tt
no_space-encode_all (c ∷ cs) h = no_space-append (encode_utf8 c) (encode_utf8_all cs) (no_space-encode c (token_char c h.0)).0 (no_space-encode_all cs h.1)

abbrev AllRuns : List (List ℕ) → Type 0
AllRuns parts = AllByRecursion AllTokenChars parts

onto_first-runs : (c : ℕ) (parts : List (List ℕ)) → is_token_char c ≡ true → AllRuns parts → AllRuns (onto_first c parts)
onto_first-runs c [] h all = ((h, tt), tt)
onto_first-runs c (part ∷ parts) h all = ((h, all.0), all.1)

split-runs : (cs : List ℕ) → AllRuns (slice_split (λ c. not (is_token_char c)) cs)
split-runs [] = (tt, tt)
split-runs (c ∷ cs) =
    elim (is_token_char c) as (λ b. is_token_char c ≡ b → AllRuns (cond (not b) ([] ∷ slice_split (λ c. not (is_token_char c)) cs) (onto_first c (slice_split (λ c. not (is_token_char c)) cs)))) [
      | true ↦ λ e. onto_first-runs c _ e (split-runs cs)
      | false ↦ λ e. (tt, split-runs cs)
    ] refl

word : (c : ℕ) (cs : List ℕ) → AllTokenChars (c ∷ cs) → IsWord (encode_utf8_all (c ∷ cs))
word c cs h =
    let first = (no_space-encode c (token_char c h.0)).1 in
    record { some = omega (arith, first, length-append (encode_utf8 c) (encode_utf8_all cs)); whole = all_indexed (λ b. b ≢ 32) (encode_utf8_all (c ∷ cs)) (no_space-encode_all (c ∷ cs) h) }

words : (parts : List (List ℕ)) → AllRuns parts → AllByRecursion IsWord (map encode_utf8_all (filter is_not_empty parts))
words [] all = tt
words ([] ∷ parts) all = words parts all.1
words ((c ∷ cs) ∷ parts) all = (word c cs all.0, words parts all.1)

-- each token is a word
pub tokens_are_words : (text : List ℕ) → All IsWord (tokens_of text)
tokens_are_words text = all_indexed IsWord (tokens_of text) (words _ (split-runs (normal_chars (chars text))))
