-- The first element that passes a test, where one does, and the cuts of a text there.
use Rattle.std.proofs.Common.{◌≡◌, ◌∙◌, ◌+◌, ◌<◌, ◌==◌, ℕ, suc, Bool, true, false, cond, not, List, [], ◌∷◌, length, nat_lt, Option, None, Some, IfSome, refl, sym, subst, ◌||◌, arith, get_or, ltb-true}
use Rattle.std.proofs.lemmas.Bool.{lt-ltb, eqb-true}
use Rattle.std.proofs.lemmas.Bool.Decides.{nat_tests}
use Rattle.std.proofs.lemmas.List.Sums.{passes_at_first}
use Rattle.std.proofs.lemmas.Str.{IsCharBoundary-before_ascii, IsCharBoundary-after_ascii}
use Rattle.std.specs.Prelude.{position}
use Rattle.std.specs.List.{list_any, position_or_len}
use Rattle.std.specs.Str.{IsUtf8, IsCharBoundary}

-- one place further in a list that is one longer
one_before : (n m : ℕ) → nat_lt (1 + n) (suc m) ≡ nat_lt n m
one_before n m = grind (arith, nat_tests)

module _ {X : Type 0} (p : X → Bool) where
  -- one passes where the first place that passes stands before the end
  any_is : (xs : List X) → list_any p xs ≡ nat_lt (position_or_len p xs) (length xs)
  any_is [] = refl
  any_is (x ∷ xs) = elim (p x) as (λ b. (b || list_any p xs) ≡ nat_lt (cond (not b) (1 + position_or_len p xs) 0) (length (x ∷ xs))) [
    | true ↦ sym (lt-ltb 0 (length (x ∷ xs)) (omega arith))
    | false ↦ any_is xs ∙ sym (one_before _ _)
  ]

  -- the first place that passes, where it is known
  pub found : (xs : List X) (at : ℕ) → position p xs ≡ Some at → (list_any p xs ≡ true) × (position_or_len p xs ≡ at)
  found xs at is = elim (nat_lt (position_or_len p xs) (length xs)) as (λ b. nat_lt (position_or_len p xs) (length xs) ≡ b → (list_any p xs ≡ true) × (position_or_len p xs ≡ at)) [
    | true ↦ λ e. let both : Some (position_or_len p xs) ≡ Some at = sym (rw e refl) ∙ is in (any_is xs ∙ e, cc both)
    | false ↦ λ e. let bad : None ≡ Some at = sym (rw e refl) ∙ is in absurd (cc bad)
  ] refl

  -- none passes
  pub missing : (xs : List X) → position p xs ≡ None → list_any p xs ≡ false
  missing xs is = elim (nat_lt (position_or_len p xs) (length xs)) as (λ b. nat_lt (position_or_len p xs) (length xs) ≡ b → list_any p xs ≡ false) [
    | true ↦ λ e. let bad : Some (position_or_len p xs) ≡ None = sym (rw e refl) ∙ is in absurd (cc bad)
    | false ↦ λ e. any_is xs ∙ e
  ] refl

-- a text may be cut before and behind a first mark of ASCII
cuts_at : (mark : ℕ) (text : List ℕ) (at : ℕ) → mark < 128 → IsUtf8 text → position (λ b. b == mark) text ≡ Some at → IsCharBoundary text at × IsCharBoundary text (at + 1)
cuts_at mark text at small utf8 is =
    let here = found (λ b. b == mark) text at is in
    let within : at < length text = subst (λ n. n < length text) here.1 (ltb-true _ _ (sym (any_is (λ b. b == mark) text) ∙ here.0)) in
    let byte : get_or text at 0 ≡ mark = eqb-true _ _ (subst (λ n. (get_or text n 0 == mark) ≡ true) here.1 (passes_at_first (λ b. b == mark) text 0 (omega (arith, within, here.1)))) in
    let below : get_or text at 0 < 128 = subst (λ b. b < 128) (sym byte) small in
    (IsCharBoundary-before_ascii text at within below, IsCharBoundary-after_ascii text at utf8 within below)

-- the same of the place of the first mark, where there is one
pub mark_cuts : (mark : ℕ) (text : List ℕ) (place : Option ℕ) → mark < 128 → IsUtf8 text → place ≡ position (λ b. b == mark) text → IfSome place (λ at. IsCharBoundary text at) × IfSome place (λ at. IsCharBoundary text (at + 1))
mark_cuts mark text None small utf8 is = (tt, tt)
mark_cuts mark text (Some at) small utf8 is = cuts_at mark text at small utf8 (sym is)
