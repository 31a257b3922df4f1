-- The first place of a byte, as a search finds it.
use Rattle.std.proofs.Common.{◌≡◌, ◌∙◌, ◌<◌, ℕ, true, false, cond, List, length, nat_lt, get_or, Option, None, Some, refl, sym, ap, arith, ltb-true}
use Rattle.std.specs.Prelude.{position}
use Rattle.std.specs.List.{position_or_len}
use Rattle.std.proofs.lemmas.Bool.{ltb-false, lt-ltb}
use Rattle.std.proofs.lemmas.List.Sums.{passes_at_first, fails_before_first}
use Rattle.memchr.specs.Find.{IsFirstByte, is_byte}

module _ (b : ℕ) (bytes : List ℕ) where
  -- the first place of the byte, or the length
  abbrev first : ℕ
  first = position_or_len (is_byte b) bytes

  in_front : (k : ℕ) → k < first → is_byte b (get_or bytes k 0) ≡ true → ⊥
  in_front k less is = let bad : false ≡ true = sym (fails_before_first (is_byte b) bytes k 0 less) ∙ is in absurd (cc bad)

  -- what a search finds is the place of the first
  pub found_is : (r : Option ℕ) → IsFirstByte (is_byte b) bytes r → r ≡ position (is_byte b) bytes
  found_is None nowhere = elim (nat_lt first (length bytes)) as (λ t. nat_lt first (length bytes) ≡ t → None ≡ cond t (Some first) None) [
    | true ↦ λ e. let within : first < length bytes = ltb-true _ _ e in absurd (nowhere first (omega arith) within (passes_at_first (is_byte b) bytes 0 within))
    | false ↦ λ e. refl
  ] refl
  found_is (Some k) (none, here) =
      let same : k ≡ first = elim (nat_lt first k) as (λ t. nat_lt first k ≡ t → k ≡ first) [
        | true ↦ λ e.
            let less : first < k = ltb-true _ _ e in
            let within : first < length bytes = omega (arith, less, none.high) in
            absurd (none.before first (omega arith) less (passes_at_first (is_byte b) bytes 0 within))
        | false ↦ λ e. elim (nat_lt k first) as (λ t. nat_lt k first ≡ t → k ≡ first) [
          | true ↦ λ f. absurd (in_front k (ltb-true _ _ f) here)
          | false ↦ λ f. omega (arith, ltb-false _ _ e, ltb-false _ _ f)
        ] refl
      ] refl in
      let within : nat_lt first (length bytes) ≡ true = lt-ltb _ _ (omega (arith, same, none.high)) in
      ap Some same ∙ ap (λ t. cond t (Some first) None) (sym within)
