-- The first pieces of a partial.
use Rattle.std.proofs.Common.{◌≡◌, ℕ, ◌+◌, ◌<◌, ◌≤◌, true, List, [], ◌∷◌, ◌++◌, length, take, get_or, sym, subst, subst₂, arith}
use Rattle.std.specs.Prelude.{Contains}
use Rattle.std.proofs.lemmas.List.{length-take-le, get_or-take, take_more}
use Rattle.std.proofs.lemmas.List.Elements.{All-take}
use Rattle.geo_base.specs.declared.job.Job.{Job}
use Rattle.stackable.specs.Partial.{piece_below, piece_numbers, IsPartial}
use Rattle.stackable.proofs.TreeFacts.{below_number}

-- the first n pieces of a partial are a partial
prefix_is_partial : (job : Job) (p : List ℕ) (n : ℕ) → IsPartial job p → 0 < n → n ≤ length p → IsPartial job (take n p)
prefix_is_partial job p n is some within =
    let short : length (take n p) ≡ n = length-take-le n p within in
    record {
      some = omega (arith, short);
      few = omega (arith, short, within, is.few);
      stacked = λ i j d l m. subst₂ (λ a b. piece_below job a b ≡ true)
          (sym (get_or-take n p i d (omega (arith, l, m, short))))
          (sym (get_or-take n p j d (omega (arith, m, short))))
          (is.stacked i j d l (omega (arith, m, short, within)));
      chosen = All-take (Contains (piece_numbers job)) n p is.chosen;
    }

pub prefix_and_next : (job : Job) (p : List ℕ) (n : ℕ) → IsPartial job p → n < length p → IsPartial job (take n p ++ get_or p n 0 ∷ [])
prefix_and_next job p n is inside = subst (IsPartial job) (take_more p n 0 inside) (prefix_is_partial job p (n + 1) is (omega arith) (omega (arith, inside)))

pub piece_within : (job : Job) (p : List ℕ) (n : ℕ) → IsPartial job p → n < length p → get_or p n 0 < length job.pieces
piece_within job p n is inside = below_number (length job.pieces) (get_or p n 0) (is.chosen n 0 inside)
