-- Whether two texts are the same is asked alike in either order.
use Rattle.std.proofs.Common.{◌≡◌, ◌∙◌, ℕ, true, false, List, bytes_eq, refl, sym, ap}
use Rattle.std.proofs.lemmas.Slice.Eq.{bytes_eq-Decides}

same_turned : (xs ys : List ℕ) → bytes_eq xs ys ≡ true → bytes_eq ys xs ≡ true
same_turned xs ys e =
    let same : xs ≡ ys = (bytes_eq-Decides xs ys).0 e in
    ap (λ z. bytes_eq z xs) (sym same) ∙ (ap (bytes_eq xs) same ∙ e)

pub bytes_eq-turned : (xs ys : List ℕ) → bytes_eq xs ys ≡ bytes_eq ys xs
bytes_eq-turned xs ys =
    elim (bytes_eq xs ys) as (λ b. bytes_eq xs ys ≡ b → b ≡ bytes_eq ys xs) [
      | true ↦ λ e. sym (same_turned xs ys e)
      | false ↦ λ e. elim (bytes_eq ys xs) as (λ b. bytes_eq ys xs ≡ b → false ≡ b) [
        | true ↦ λ f. sym e ∙ same_turned ys xs f
        | false ↦ λ f. refl
      ] refl
    ] refl
