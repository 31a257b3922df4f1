-- Codes of languages, and lists of them that differ.
use Rattle.std.proofs.Common.{◌≡◌, ◌∙◌, ◌||◌, ◌&&◌, not, ◌<◌, ◌≤◌, ℕ, Bool, true, false, List, [], ◌∷◌, ◌++◌, length, nat_le, nat_lt, bytes_eq, refl, sym, arith, length-append}
use Rattle.std.specs.List.{list_all, list_any}
use Rattle.std.proofs.lemmas.List.Sums.{AllPass-from_list_all, list_all-from_AllPass}
use Rattle.std.proofs.lemmas.List.Folds.{list_any-append, list_all-append}
use Rattle.std.proofs.lemmas.Bool.{and_parts, leb-true, le-leb}
use Rattle.std.proofs.lemmas.Bool.Decides.{nat_tests}
use Rattle.geo_text.specs.Tokens.{is_ascii}
use Rattle.geo_base.specs.LangCode.{is_code_char, starts_with_letter, is_code}
use Rattle.geo_layer.specs.Langs.{all_differ, are_langs}
use Rattle.geo_layer.proofs.SameBytes.{bytes_eq-turned}

-- what passes a test passes a weaker one
weaker : (p q : ℕ → Bool) → ((b : ℕ) → p b ≡ true → q b ≡ true) → (bs : List ℕ) → list_all p bs ≡ true → list_all q bs ≡ true
weaker p q h bs all = list_all-from_AllPass q bs (λ k d lt. h _ (AllPass-from_list_all p bs all k d lt))

-- a byte of a code is below 128
in_code : (b : ℕ) → is_code_char b ≡ true → nat_lt b 128 ≡ true
in_code b h = grind (arith, nat_tests)

-- a code is ASCII
pub code-ascii : (bs : List ℕ) → is_code bs ≡ true → is_ascii bs ≡ true
code-ascii bs h =
    let more : (nat_le (length bs) 16 && (starts_with_letter bs && list_all is_code_char bs)) ≡ true = (and_parts _ _ h).1 in
    let chars : (starts_with_letter bs && list_all is_code_char bs) ≡ true = (and_parts _ _ more).1 in
    weaker is_code_char (λ b. nat_lt b 128) in_code bs (and_parts _ _ chars).1

-- what isn't ASCII is no code
pub no_code : (bs : List ℕ) → is_ascii bs ≡ false → is_code bs ≡ false
no_code bs h = elim (is_code bs) as (λ b. is_code bs ≡ b → b ≡ false) [
  | true ↦ λ e. let bad : true ≡ false = sym (code-ascii bs e) ∙ h in absurd (cc bad)
  | false ↦ λ e. refl
] refl

-- ---- one code more

-- a text that is none of them, after them
differ_more : (xs : List (List ℕ)) (code : List ℕ) → all_differ xs ≡ true → list_any (bytes_eq code) xs ≡ false → all_differ (xs ++ code ∷ []) ≡ true
differ_more [] code h none = refl
differ_more (x ∷ xs) code h none =
    elim (bytes_eq code x) as (λ b. bytes_eq code x ≡ b → (b || list_any (bytes_eq code) xs) ≡ false → all_differ ((x ∷ xs) ++ code ∷ []) ≡ true) [
      | true ↦ λ e n. absurd (cc n)
      | false ↦ λ e n.
          let both = and_parts _ _ h in
          rw (list_any-append (bytes_eq x) xs (code ∷ []), sym (bytes_eq-turned code x) ∙ e, differ_more xs code both.1 n)
          (elim (list_any (bytes_eq x) xs) as (λ b. not b ≡ true → (not (b || false) && true) ≡ true) [ true ↦ λ bad. bad | false ↦ λ good. refl ] both.0)
    ] refl none

-- a text that is one of them, after them
differ_less : (xs : List (List ℕ)) (code : List ℕ) (more : List (List ℕ)) → list_any (bytes_eq code) xs ≡ true → all_differ (xs ++ code ∷ more) ≡ false
differ_less [] code more some = absurd (cc some)
differ_less (x ∷ xs) code more some =
    elim (bytes_eq code x) as (λ b. bytes_eq code x ≡ b → (b || list_any (bytes_eq code) xs) ≡ true → all_differ ((x ∷ xs) ++ code ∷ more) ≡ false) [
      | true ↦ λ e s.
          let itself : bytes_eq x code ≡ true = sym (bytes_eq-turned code x) ∙ e in
          rw (list_any-append (bytes_eq x) xs (code ∷ more), itself)
          (elim (list_any (bytes_eq x) xs) as (λ b. (not (b || true) && all_differ (xs ++ code ∷ more)) ≡ false) [ true ↦ refl | false ↦ refl ])
      | false ↦ λ e s.
          rw (differ_less xs code more s)
          (elim (list_any (bytes_eq x) (xs ++ code ∷ more)) as (λ b. (not b && false) ≡ false) [ true ↦ refl | false ↦ refl ])
    ] refl some

-- one that stands already
pub twice : (xs : List (List ℕ)) (code : List ℕ) (more : List (List ℕ)) → true ≡ list_any (bytes_eq code) xs → are_langs (xs ++ code ∷ more) ≡ false
twice xs code more some =
    rw (differ_less xs code more (sym some))
    (elim (nat_le (length (xs ++ code ∷ more)) 127) as (λ b. (b && (list_all is_code (xs ++ code ∷ more) && false)) ≡ false) [
      | true ↦ elim (list_all is_code (xs ++ code ∷ more)) as (λ b. (b && false) ≡ false) [ true ↦ refl | false ↦ refl ]
      | false ↦ refl
    ])

one_short : (xs : List (List ℕ)) (code : List ℕ) → length xs < 127 → nat_le (length (xs ++ code ∷ [])) 127 ≡ true
one_short xs code few = le-leb _ _ (omega (arith, few, length-append xs (code ∷ [])))

-- one code more
pub one_code : (xs : List (List ℕ)) (code : List ℕ) → are_langs xs ≡ true → length xs < 127 → is_code code ≡ true → list_any (bytes_eq code) xs ≡ false → are_langs (xs ++ code ∷ []) ≡ true
one_code xs code are few is none =
    let more : (list_all is_code xs && all_differ xs) ≡ true = (and_parts _ _ are).1 in
    let parts : (list_all is_code xs ≡ true) × (all_differ xs ≡ true) = and_parts _ _ more in
    let short : nat_le (length (xs ++ code ∷ [])) 127 ≡ true = one_short xs code few in
    rw (short, list_all-append is_code xs (code ∷ []), parts.0, is, differ_more xs code parts.1 none) refl

-- listed languages are at most 127
pub few_codes : (xs : List (List ℕ)) → are_langs xs ≡ true → length xs ≤ 127
few_codes xs are = leb-true (length xs) 127 (and_parts _ _ are).0
