-- Bytes without a line feed, where the first one is, and the parts between them.
use Rattle.std.proofs.Common.{◌≡◌, ◌∙◌, ◌+◌, ◌<◌, ◌==◌, ℕ, zero, suc, Bool, true, false, List, [], ◌∷◌, ◌++◌, length, take, drop, get_or, nat_lt, None, Some, refl, sym, ap, add-one, arith}
use Rattle.std.specs.Prelude.{position}
use Rattle.std.specs.List.{slice_split, position_or_len}
use Rattle.std.proofs.lemmas.Bool.{ltb-false, eqb-true}
use Rattle.std.proofs.lemmas.List.Quantifiers.{position-Some}
use Rattle.std.proofs.lemmas.List.Sums.{fails_before_first}
use Rattle.geo_text.specs.Bytes.{NoLineFeed}

abbrev pub is_line_feed : ℕ → Bool
is_line_feed b = b == 10

pub no_line_feed_append : (xs ys : List ℕ) → NoLineFeed xs → NoLineFeed ys → NoLineFeed (xs ++ ys)
no_line_feed_append [] ys one two = two
no_line_feed_append (x ∷ xs) ys one two = (one.0, no_line_feed_append xs ys one.1 two)

-- where no byte is one
none_is : (xs : List ℕ) → ((k : ℕ) → k < length xs → is_line_feed (get_or xs k 0) ≡ false) → NoLineFeed xs
none_is [] fails = tt
none_is (x ∷ xs) fails = (fails zero (omega arith), none_is xs (λ k lt. fails (suc k) (omega (arith, lt))))

-- where the first one is
first_is : (xs : List ℕ) (k : ℕ) → k < length xs → is_line_feed (get_or xs k 0) ≡ true → ((j : ℕ) → j < k → is_line_feed (get_or xs j 0) ≡ false) → NoLineFeed (take k xs) × (xs ≡ take k xs ++ 10 ∷ drop (suc k) xs)
first_is [] k within here before = absurd (omega (arith, within))
first_is (x ∷ xs) zero within here before = (tt, ap (λ b. b ∷ xs) (eqb-true x 10 here))
first_is (x ∷ xs) (suc k) within here before =
    let more = first_is xs k (omega (arith, within)) here (λ j lt. before (suc j) (omega (arith, lt))) in
    ((before zero (omega arith), more.0), ap (λ l. x ∷ l) more.1)

-- up to the first line feed there is none, and what follows it comes after it
pub at_line_feed : (xs : List ℕ) (k : ℕ) → position (λ b. b == 10) xs ≡ Some k → NoLineFeed (take k xs) × (xs ≡ take k xs ++ 10 ∷ drop (k + 1) xs)
at_line_feed xs k is =
    let found = position-Some (λ b. b == 10) xs k 0 is in
    let both = first_is xs k found.0 found.1 found.2 in
    (both.0, both.1 ∙ ap (λ i. take k xs ++ 10 ∷ drop i xs) (sym (add-one k)))

-- where no line feed is found there is none
pub no_line_feed : (xs : List ℕ) → position (λ b. b == 10) xs ≡ None → NoLineFeed xs
no_line_feed xs is = by (nat_lt (position_or_len is_line_feed xs) (length xs)) refl
  where
    by : (b : Bool) → nat_lt (position_or_len is_line_feed xs) (length xs) ≡ b → NoLineFeed xs
    by true e = let bad : Some (position_or_len is_line_feed xs) ≡ None = sym (rw e refl) ∙ is in absurd (cc bad)
    by false e = none_is xs (λ k lt. fails_before_first is_line_feed xs k 0 (omega (arith, lt, ltb-false _ _ e)))

-- ---- the parts between line is_line_feed

-- a line feed ends what has come of a line
pub split_line : (xs more : List ℕ) → NoLineFeed xs → slice_split is_line_feed (xs ++ 10 ∷ more) ≡ xs ∷ slice_split is_line_feed more
split_line [] more none = refl
split_line (x ∷ xs) more none = rw (none.0, split_line xs more none.1) refl

-- without one there is one part
pub split_rest : (xs : List ℕ) → NoLineFeed xs → slice_split is_line_feed xs ≡ xs ∷ []
split_rest [] none = refl
split_rest (x ∷ xs) none = rw (none.0, split_rest xs none.1) refl
