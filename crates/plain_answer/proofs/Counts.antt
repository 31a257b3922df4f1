-- Runs that match, counted.
use Rattle.std.proofs.Common.{◌≡◌, ◌∙◌, ◌+◌, ◌-◌, ◌≤◌, ℕ, Bool, true, false, cond, suc, List, [], ◌∷◌, length, map, filter, refl, sym, ap, arith, length-append}
use Rattle.std.specs.Prelude.{flat_map}
use Rattle.std.proofs.lemmas.List.{map-append}
use Rattle.std.proofs.lemmas.List.Elements.{filter-append}
use Rattle.geo_base.specs.Lists.{numbers_from}
use Rattle.plain_answer.proofs.RunLists.{numbers_from-suc, one_more}

-- 1 for true
abbrev pub number : Bool → ℕ
number b = cond b 1 0

one_only : {X : Type 0} (m : X → Bool) (x : X) → length (filter m (x ∷ [])) ≡ number (m x)
one_only m x = by (m x)
  where
    by : (b : Bool) → length (cond b (x ∷ []) []) ≡ number b
    by true = refl
    by false = refl

-- one more number may match
pub one_more_counted : {X : Type 0} (m : X → Bool) (g : ℕ → X) (k i count : ℕ) → k ≤ i → count ≡ length (filter m (map g (numbers_from k (i - k)))) → length (filter m (map g (numbers_from k (i + 1 - k)))) ≡ count + number (m (g i))
one_more_counted m g k i count low so_far =
    let next : i + 1 - k ≡ suc (i - k) = omega (arith, low) in
    let last : k + (i - k) ≡ i = omega (arith, low) in
    ap (λ n. length (filter m (map g (numbers_from k n)))) next
    ∙ (ap (λ l. length (filter m (map g l))) (numbers_from-suc k (i - k))
    ∙ (ap (λ l. length (filter m l)) (map-append g (numbers_from k (i - k)) ((k + (i - k)) ∷ []))
    ∙ (ap length (filter-append m (map g (numbers_from k (i - k))) (g (k + (i - k)) ∷ []))
    ∙ (length-append (filter m (map g (numbers_from k (i - k)))) (filter m (g (k + (i - k)) ∷ []))
    ∙ (ap (λ n. n + length (filter m (g (k + (i - k)) ∷ []))) (sym so_far)
    ∙ (ap (λ n. count + length (filter m (g n ∷ []))) last
    ∙ ap (λ n. count + n) (one_only m (g i))))))))

-- the runs from one more token
pub one_more_list : {X : Type 0} (m : X → Bool) (f : ℕ → List X) (i count : ℕ) → count ≡ length (filter m (flat_map f (numbers_from 0 (i - 0)))) → length (filter m (flat_map f (numbers_from 0 (i + 1 - 0)))) ≡ count + length (filter m (f i))
one_more_list m f i count so_far =
    ap (λ l. length (filter m l)) (sym (one_more f [] (flat_map f (numbers_from 0 (i - 0))) 0 i (omega arith) refl))
    ∙ (ap length (filter-append m (flat_map f (numbers_from 0 (i - 0))) (f i))
    ∙ (length-append (filter m (flat_map f (numbers_from 0 (i - 0)))) (filter m (f i))
    ∙ ap (λ n. n + length (filter m (f i))) (sym so_far)))
