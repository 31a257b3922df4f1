-- Facts of each element of a list, by recursion and by place.
use Rattle.std.proofs.Common.{◌≡◌, ◌<◌, ℕ, zero, suc, List, [], ◌∷◌, length, get_or, refl, arith, All}
use Rattle.std.specs.List.{AllByRecursion}

module _ {X : Type 0} where
  -- what holds of each by recursion holds at each place
  pub all_indexed : (P : X → Type 0) (xs : List X) → AllByRecursion P xs → All P xs
  all_indexed P [] h = λ k d l. absurd (omega (arith, l))
  all_indexed P (x ∷ xs) h = λ k d l. elim k as (λ k. k < length (x ∷ xs) → P (get_or (x ∷ xs) k d)) [
    | zero ↦ λ l. h.0
    | suc n ↦ λ l. all_indexed P xs h.1 n d (omega (arith, l))
  ] l

  -- what is found in range doesn't depend on the default
  pub get_or_again : (xs : List X) (k : ℕ) (d : X) → k < length xs → get_or xs k (get_or xs k d) ≡ get_or xs k d
  get_or_again [] k d l = refl
  get_or_again (x ∷ xs) zero d l = refl
  get_or_again (x ∷ xs) (suc k) d l = get_or_again xs k d (omega (arith, l))
