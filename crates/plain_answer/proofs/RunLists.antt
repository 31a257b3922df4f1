-- Runs, one after another.
use Rattle.std.proofs.Common.{◌≡◌, ◌∙◌, ◌+◌, ◌-◌, ◌≤◌, ℕ, zero, suc, List, [], ◌∷◌, ◌++◌, map, refl, sym, ap, arith, append_assoc, append-nil, add-zero}
use Rattle.std.specs.Prelude.{flat_map}
use Rattle.std.proofs.lemmas.List.Concat.{flat_map-append}
use Rattle.geo_base.specs.Lists.{numbers_from}

-- one more number
pub numbers_from-suc : (k n : ℕ) → numbers_from k (suc n) ≡ numbers_from k n ++ (k + n) ∷ []
numbers_from-suc k zero = ap (λ m. m ∷ []) (sym (add-zero k))
numbers_from-suc k (suc n) =
    let next : (k + 1) + n ≡ k + suc n = omega arith in
    ap (λ l. k ∷ l) (numbers_from-suc (k + 1) n ∙ ap (λ m. numbers_from (k + 1) n ++ m ∷ []) next)

-- the things of one more number
pub one_more : {X : Type 0} (f : ℕ → List X) (old made : List X) (k i : ℕ) → k ≤ i → made ≡ old ++ flat_map f (numbers_from k (i - k)) → made ++ f i ≡ old ++ flat_map f (numbers_from k (i + 1 - k))
one_more f old made k i low so_far =
    let count : i + 1 - k ≡ suc (i - k) = omega (arith, low) in
    let last : k + (i - k) ≡ i = omega (arith, low) in
    let grown : flat_map f (numbers_from k (i + 1 - k)) ≡ flat_map f (numbers_from k (i - k)) ++ f i =
    ap (λ n. flat_map f (numbers_from k n)) count
    ∙ (ap (flat_map f) (numbers_from-suc k (i - k))
    ∙ (flat_map-append f (numbers_from k (i - k)) ((k + (i - k)) ∷ [])
    ∙ (ap (λ n. flat_map f (numbers_from k (i - k)) ++ (f n ++ [])) last
    ∙ ap (λ l. flat_map f (numbers_from k (i - k)) ++ l) (append-nil (f i))))) in
    ap (λ l. l ++ f i) so_far ∙ (append_assoc old (flat_map f (numbers_from k (i - k))) (f i) ∙ ap (λ l. old ++ l) (sym grown))

pub flat_map-map : {X Y Z : Type 0} (f : Y → List Z) (g : X → Y) (xs : List X) → flat_map f (map g xs) ≡ flat_map (λ x. f (g x)) xs
flat_map-map f g [] = refl
flat_map-map f g (x ∷ xs) = ap (λ l. f (g x) ++ l) (flat_map-map f g xs)

pub flat_map-flat_map : {X Y Z : Type 0} (f : Y → List Z) (g : X → List Y) (xs : List X) → flat_map f (flat_map g xs) ≡ flat_map (λ x. flat_map f (g x)) xs
flat_map-flat_map f g [] = refl
flat_map-flat_map f g (x ∷ xs) = flat_map-append f (g x) (flat_map g xs) ∙ ap (λ l. flat_map f (g x) ++ l) (flat_map-flat_map f g xs)
