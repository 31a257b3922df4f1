-- The words of a text: spaces at its beginning add none, and what the first word leaves.
use Rattle.std.proofs.Common.{◌≡◌, ◌≢◌, ◌∙◌, ◌+◌, ◌<◌, ◌≤◌, ◌==◌, ℕ, suc, Bool, true, false, cond, not, List, [], ◌∷◌, length, take, filter, nat_lt, refl, sym, ap, subst, arith, ltb-true, length-drop, inl, inr}
use Rattle.std.specs.List.{slice_split, position_or_len, list_any, AllByRecursion}
use Rattle.std.proofs.lemmas.List.Elements.{All-from_recursion, recursion_from_All}
use Rattle.std.proofs.lemmas.Bool.{ltb-false, cases_Bool, or_parts, or_from, eqb-true, eqb-false, ne_eqb}
use Rattle.std.proofs.lemmas.List.{take_all, drop_all, length-take}
use Rattle.std.proofs.lemmas.List.Splits.{slice_split_none, slice_split_first}
use Rattle.std.proofs.lemmas.List.Sums.{fails_before_first}
use Rattle.geo_text.specs.Words.{words_of, first_word, after_word, skip_spaces, is_not_empty, IsWord}

-- the byte is a space
abbrev is_space : ℕ → Bool
is_space b = b == 32

-- a space is skipped
skip_yes : (b : ℕ) (bs : List ℕ) → (b == 32) ≡ true → skip_spaces (b ∷ bs) ≡ skip_spaces bs
skip_yes b bs is = rw is refl

-- another byte isn't
skip_no : (b : ℕ) (bs : List ℕ) → (b == 32) ≡ false → skip_spaces (b ∷ bs) ≡ b ∷ bs
skip_no b bs isnt = rw isnt refl

-- where no space stands at the beginning, nothing is skipped
pub none_skipped : (text : List ℕ) → ((rest : List ℕ) → text ≢ 32 ∷ rest) → text ≡ skip_spaces text
none_skipped [] other = refl
none_skipped (b ∷ bs) other = elim (cases_Bool (b == 32)) [
  | inl is ↦ absurd (other bs (ap (λ x. x ∷ bs) (eqb-true b 32 is)))
  | inr isnt ↦ sym (skip_no b bs isnt)
]

-- a space at the beginning adds no word
one_less : (b : ℕ) (bs : List ℕ) → (b == 32) ≡ true → words_of (b ∷ bs) ≡ words_of bs
one_less b bs is = rw is refl

-- spaces at the beginning add no word
pub words_skipped : (text : List ℕ) → words_of text ≡ words_of (skip_spaces text)
words_skipped [] = refl
words_skipped (b ∷ bs) = elim (cases_Bool (b == 32)) [
  | inl is ↦ one_less b bs is ∙ (words_skipped bs ∙ ap words_of (sym (skip_yes b bs is)))
  | inr isnt ↦ ap words_of (sym (skip_no b bs isnt))
]

-- the part before the first space, and the words after it
parted : (text : List ℕ) → (more : List (List ℕ)) × (slice_split is_space text ≡ first_word text ∷ more) × (filter is_not_empty more ≡ words_of (after_word text))
parted text = elim (nat_lt n (length text)) as (λ t. nat_lt n (length text) ≡ t → (more : List (List ℕ)) × (slice_split is_space text ≡ first_word text ∷ more) × (filter is_not_empty more ≡ words_of (after_word text))) [
  | true ↦ λ e. (slice_split is_space (after_word text), slice_split_first is_space text 0 (ltb-true _ _ e), refl)
  | false ↦ λ e. ([], none e, ap words_of (sym (drop_all (n + 1) text (omega (arith, ltb-false _ _ e)))))
] refl
  where
    n : ℕ
    n = position_or_len is_space text

    none : nat_lt n (length text) ≡ false → slice_split is_space text ≡ first_word text ∷ []
    none e = slice_split_none is_space text (λ k d lt. fails_before_first is_space text k d (omega (arith, lt, ltb-false _ _ e))) ∙ ap (λ l. l ∷ []) (sym (take_all n text (ltb-false _ _ e)))

-- a word that isn't empty is kept
kept : (word : List ℕ) (words : List (List ℕ)) → 0 < length word → filter is_not_empty (word ∷ words) ≡ word ∷ filter is_not_empty words
kept [] words some = absurd (omega (arith, some))
kept (b ∷ bs) words some = refl

-- a text that begins with no space has a byte before the first
first_is_some : (b : ℕ) (bs : List ℕ) → (b == 32) ≡ false → 0 < length (first_word (b ∷ bs))
first_is_some b bs is = rw is (omega (arith, length-take (1 + position_or_len is_space bs) (b ∷ bs)))

-- a text that begins with no space begins with its first word
begins : (b : ℕ) (bs : List ℕ) → (b == 32) ≡ false → words_of (b ∷ bs) ≡ first_word (b ∷ bs) ∷ words_of (after_word (b ∷ bs))
begins b bs is =
    let p = parted (b ∷ bs) in
    ap (filter is_not_empty) p.1 ∙ (kept (first_word (b ∷ bs)) p.0 (first_is_some b bs is) ∙ ap (λ l. first_word (b ∷ bs) ∷ l) p.2)

-- the first word of the rest and the words after it are the words of the text
abbrev Next : List ℕ → List ℕ → Type 0
Next text rest = words_of text ≡ first_word rest ∷ words_of (after_word rest)

-- the first word behind the spaces, and the words after it
pub next_word_is : (text : List ℕ) → 0 < length (skip_spaces text) → Next text (skip_spaces text)
next_word_is [] some = absurd (omega (arith, some))
next_word_is (b ∷ bs) some = elim (cases_Bool (b == 32)) [
  | inl is ↦ subst (Next (b ∷ bs)) (sym (skip_yes b bs is)) (one_less b bs is ∙ next_word_is bs (subst (λ l. 0 < length l) (skip_yes b bs is) some))
  | inr isnt ↦ subst (Next (b ∷ bs)) (sym (skip_no b bs isnt)) (begins b bs isnt)
]

-- skipping spaces makes no text longer
skipped_shorter : (text : List ℕ) → length (skip_spaces text) ≤ length text
skipped_shorter [] = omega arith
skipped_shorter (b ∷ bs) = elim (b == 32) as (λ t. length (cond t (skip_spaces bs) (b ∷ bs)) ≤ length (b ∷ bs)) [
  | true ↦ omega (arith, skipped_shorter bs)
  | false ↦ omega arith
]

-- what follows the first word is shorter than the text
pub after_shorter : (text : List ℕ) → 0 < length (skip_spaces text) → length (after_word (skip_spaces text)) < length text
after_shorter text some = omega (arith, some, skipped_shorter text, length-drop (position_or_len is_space (skip_spaces text) + 1) (skip_spaces text))

-- no space stands in a text in which none is found
no_space : (word : List ℕ) → list_any is_space word ≡ false → AllByRecursion (λ b. b ≢ 32) word
no_space [] none = tt
no_space (b ∷ bs) none = let both = or_parts (b == 32) (list_any is_space bs) none in (eqb-false b 32 both.0, no_space bs both.1)

none_found : (word : List ℕ) → AllByRecursion (λ b. b ≢ 32) word → list_any is_space word ≡ false
none_found [] whole = refl
none_found (b ∷ bs) whole = or_from (b == 32) (list_any is_space bs) (ne_eqb b 32 whole.0) (none_found bs whole.1)

-- a text with a byte in which no space is found is a word
pub word_is : (word : List ℕ) → 0 < length word → list_any is_space word ≡ false → IsWord word
word_is word some none = record { some = some; whole = All-from_recursion (λ b. b ≢ 32) word (no_space word none) }

-- no space is found in a word
pub no_space_found : (word : List ℕ) → IsWord word → list_any is_space word ≡ false
no_space_found word is = none_found word (recursion_from_All (λ b. b ≢ 32) word is.whole)

-- one byte more is taken
take_one : (b : ℕ) (bs : List ℕ) (n : ℕ) → take (1 + n) (b ∷ bs) ≡ b ∷ take n bs
take_one b bs n = let same : 1 + n ≡ suc n = omega arith in ap (λ k. take k (b ∷ bs)) same

-- no space is found before the first
before_is_whole : (text : List ℕ) → list_any is_space (first_word text) ≡ false
before_is_whole [] = refl
before_is_whole (b ∷ bs) = elim (b == 32) as (λ t. b == 32 ≡ t → list_any is_space (take (cond (not t) (1 + position_or_len is_space bs) 0) (b ∷ bs)) ≡ false) [
  | true ↦ λ is. refl
  | false ↦ λ isnt. ap (list_any is_space) (take_one b bs (position_or_len is_space bs)) ∙ or_from (b == 32) (list_any is_space (first_word bs)) isnt (before_is_whole bs)
] refl

-- the first word behind the spaces is a word
pub first_is_word : (text : List ℕ) → 0 < length (skip_spaces text) → IsWord (first_word (skip_spaces text))
first_is_word [] some = absurd (omega (arith, some))
first_is_word (b ∷ bs) some = elim (cases_Bool (b == 32)) [
  | inl is ↦ subst (λ rest. IsWord (first_word rest)) (sym (skip_yes b bs is)) (first_is_word bs (subst (λ l. 0 < length l) (skip_yes b bs is) some))
  | inr isnt ↦ subst (λ rest. IsWord (first_word rest)) (sym (skip_no b bs isnt)) (word_is (first_word (b ∷ bs)) (first_is_some b bs isnt) (before_is_whole (b ∷ bs)))
]
