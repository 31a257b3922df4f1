-- A code of a language is ASCII, and the language that options ask for is a code.
use Rattle.std.proofs.Common.{◌≡◌, ℕ, true, false, List, [], ◌∷◌, ◌&&◌, nat_lt, nat_le, length, refl, subst, arith, ◌==◌, cond, inl, inr, Some, bytes_eq}
use Rattle.std.specs.Prelude.{codes, option_and_then}
use Rattle.std.specs.List.{list_all, list_any, find}
use Rattle.std.proofs.lemmas.Bool.{and_parts, and_from, or_cases, false_from_ne_true, both_ways}
use Rattle.std.proofs.lemmas.Slice.Eq.{bytes_eq-Decides}
use Rattle.std.proofs.lemmas.Bool.Decides.{nat_tests}
use Rattle.geo_base.specs.LangCode.{is_code_char, is_code, starts_with_letter}
use Rattle.geo_text.specs.Tokens.{is_ascii}
use Rattle.geo_query.specs.Query.{is_option, name_part, value_part, option_value}

-- a character of a code is ASCII
small : (c : ℕ) → is_code_char c ≡ true → nat_lt c 128 ≡ true
small c is = grind (arith, nat_tests)

-- characters of codes are ASCII
all_small : (text : List ℕ) → list_all is_code_char text ≡ true → is_ascii text ≡ true
all_small [] is = refl
all_small (c ∷ cs) is =
    let both = and_parts _ _ is in
    and_from _ _ (small c both.0) (all_small cs both.1)

-- what isn't ASCII is no code
pub no_code : (text : List ℕ) → is_ascii text ≡ false → is_code text ≡ false
no_code text isnt = false_from_ne_true (is_code text) (λ is.
    let after_long = and_parts (nat_le 2 (length text)) (nat_le (length text) 16 && (starts_with_letter text && list_all is_code_char text)) is in
    let after_short = and_parts (nat_le (length text) 16) (starts_with_letter text && list_all is_code_char text) after_long.1 in
    let chars = (and_parts (starts_with_letter text) (list_all is_code_char text) after_short.1).1 in
    both_ways (is_ascii text) isnt (all_small text chars))

-- an option named `lang` has a code
lang_word : (word : List ℕ) → is_option word ≡ true → bytes_eq (name_part word) (codes "lang") ≡ true → is_code (value_part word) ≡ true
lang_word word is named =
    let name : name_part word ≡ codes "lang" = (bytes_eq-Decides _ _).0 named in
    let kinds = (and_parts (list_any (λ b. b == 61) word) _ is).1 in
    elim (or_cases (bytes_eq word (codes "auto=0")) _ kinds) [
      | inl off ↦ absurd (other (codes "auto=0") name off refl)
      | inr kinds ↦ elim (or_cases (bytes_eq word (codes "auto=1")) _ kinds) [
        | inl on ↦ absurd (other (codes "auto=1") name on refl)
        | inr kinds ↦ elim (or_cases (bytes_eq (name_part word) (codes "lang") && is_code (value_part word)) _ kinds) [
          | inl lang ↦ (and_parts _ _ lang).1
          | inr box ↦ absurd (both_ways (bytes_eq (codes "lang") (codes "box")) refl (subst (λ n. bytes_eq n (codes "box") ≡ true) name box))
        ]
      ]
    ]
  where
    other : (text : List ℕ) → name_part word ≡ codes "lang" → bytes_eq word text ≡ true → bytes_eq (name_part text) (codes "lang") ≡ false → ⊥
    other text name same differs =
        let is : word ≡ text = (bytes_eq-Decides word text).0 same in
        both_ways (bytes_eq (name_part text) (codes "lang")) differs (subst (λ w. bytes_eq (name_part w) (codes "lang") ≡ true) is named)

-- the language that options ask for is a code
pub lang_is_code : (words : List (List ℕ)) (value : List ℕ) → list_all is_option words ≡ true → option_value (codes "lang") words ≡ Some value → is_code value ≡ true
lang_is_code [] value fit is = cc
lang_is_code (word ∷ words) value fit is =
    let both = and_parts (is_option word) (list_all is_option words) fit in
    elim (bytes_eq (name_part word) (codes "lang")) as (λ b. bytes_eq (name_part word) (codes "lang") ≡ b → option_and_then (λ w. Some (value_part w)) (cond b (Some word) (find (λ w. bytes_eq (name_part w) (codes "lang")) words)) ≡ Some value → is_code value ≡ true) [
      | true ↦ λ e is. let same : value_part word ≡ value = cc is in subst (λ v. is_code v ≡ true) same (lang_word word both.0 e)
      | false ↦ λ e is. lang_is_code words value both.1 is
    ] refl is
