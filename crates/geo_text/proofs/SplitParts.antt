-- A list cut where a test passes: what the first cut leaves.
use Rattle.std.proofs.lemmas.List.{take_all, length-drop}
use Rattle.std.proofs.Common.{◌≡◌, ◌∙◌, ◌+◌, ◌-◌, ◌≤◌, ℕ, Bool, true, false, cond, List, [], ◌∷◌, length, take, drop, nat_lt, None, Some, refl, sym, ap, arith, ltb-true}
use Rattle.std.specs.Prelude.{position}
use Rattle.std.specs.List.{position_or_len}
use Rattle.std.proofs.lemmas.Bool.{ltb-false}
use Rattle.std.proofs.lemmas.List.Splits.{slice_split_none, slice_split_first}
use Rattle.std.proofs.lemmas.List.Sums.{fails_before_first}
use Rattle.std.specs.List.{slice_split, onto_first}

-- nothing passes: the list is the one part
pub cut_none : (p : ℕ → Bool) (xs : List ℕ) → position p xs ≡ None → slice_split p xs ≡ xs ∷ []
cut_none p xs is = elim (nat_lt (position_or_len p xs) (length xs)) as (λ b. (nat_lt (position_or_len p xs) (length xs) ≡ b) → slice_split p xs ≡ xs ∷ []) [
  | true ↦ λ e. let bad : Some (position_or_len p xs) ≡ None = sym (rw e refl) ∙ is in absurd (cc bad)
  | false ↦ λ e. slice_split_none p xs (λ k d lt. fails_before_first p xs k d (omega (arith, lt, ltb-false _ _ e)))
] refl

-- the first that passes cuts off the first part
pub cut_some : (p : ℕ → Bool) (xs : List ℕ) (at : ℕ) → position p xs ≡ Some at → slice_split p xs ≡ take at xs ∷ slice_split p (drop (at + 1) xs)
cut_some p xs at is = elim (nat_lt (position_or_len p xs) (length xs)) as (λ b. (nat_lt (position_or_len p xs) (length xs) ≡ b) → slice_split p xs ≡ take at xs ∷ slice_split p (drop (at + 1) xs)) [
  | true ↦ λ e.
      let both : Some (position_or_len p xs) ≡ Some at = sym (rw e refl) ∙ is in
      let same : position_or_len p xs ≡ at = cc both in
      slice_split_first p xs 0 (ltb-true _ _ e) ∙ ap (λ n. take n xs ∷ slice_split p (drop (n + 1) xs)) same
  | false ↦ λ e. let bad : None ≡ Some at = sym (rw e refl) ∙ is in absurd (cc bad)
] refl

-- the elements from n on, up to the end
pub rest_is : (n : ℕ) (xs : List ℕ) → take (length xs - n) (drop n xs) ≡ drop n xs
rest_is n xs = let h : length (drop n xs) ≤ length xs - n = omega (arith, length-drop n xs) in take_all _ _ h

-- there is always a part
pub some_part : (p : ℕ → Bool) (xs : List ℕ) → (y : List ℕ) × (ys : List (List ℕ)) × (slice_split p xs ≡ y ∷ ys)
some_part p [] = ([], [], refl)
some_part p (x ∷ xs) =
    let more = some_part p xs in
    elim (p x) as (λ b. (y : List ℕ) × (ys : List (List ℕ)) × (cond b ([] ∷ slice_split p xs) (onto_first x (slice_split p xs)) ≡ y ∷ ys)) [
      | true ↦ ([], slice_split p xs, refl)
      | false ↦ (x ∷ more.0, more.1, ap (onto_first x) more.2)
    ]
