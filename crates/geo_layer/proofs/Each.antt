-- Going over a list whose values may each be refused.
use Rattle.std.proofs.Common.{◌≡◌, ◌∙◌, ◌+◌, ◌<◌, ℕ, Bool, true, false, suc, List, [], ◌∷◌, ◌++◌, length, get_or, map, drop, Option, None, Some, refl, sym, ap, append_assoc, drop-cons, add-one}
use Rattle.std.specs.Prelude.{option_and_then, if◌then◌else◌}
use Rattle.std.specs.List.{list_all}
use Rattle.serde_json.specs.Data.{Data}
use Rattle.serde_json.specs.View.{items_of}
use Rattle.geo_layer.specs.Json.{each_of, list_of}

-- what was made so far, and what the rest makes
abbrev pub onto : {B : Type 0} → List B → Option (List B) → Option (List B)
onto made rest = option_and_then (λ ys. Some (made ++ ys)) rest

-- one more is made before the rest
onto_one : {B : Type 0} (made : List B) (y : B) (o : Option (List B)) → onto made (option_and_then (λ ys. Some (y ∷ ys)) o) ≡ onto (made ++ y ∷ []) o
onto_one made y None = refl
onto_one made y (Some ys) = ap Some (sym (append_assoc made (y ∷ []) ys))

at_drop : {A : Type 0} (xs : List A) (i : ℕ) (x : A) → i < length xs → x ≡ get_or xs i x → drop i xs ≡ x ∷ drop (i + 1) xs
at_drop xs i x within here = drop-cons xs i x within ∙ (ap (λ n. get_or xs i x ∷ drop n xs) (sym (add-one i)) ∙ ap (λ z. z ∷ drop (i + 1) xs) (sym here))

-- one more value is made
pub one_more : {A B : Type 0} (f : A → Option B) (xs : List A) (i : ℕ) (x : A) (y : B) (made : List B) (all : Option (List B)) → i < length xs → x ≡ get_or xs i x → f x ≡ Some y
    → all ≡ onto made (each_of f (drop i xs)) → all ≡ onto (made ++ y ∷ []) (each_of f (drop (i + 1) xs))
one_more f xs i x y made all within here is so_far =
    so_far ∙ (ap (λ l. onto made (each_of f l)) (at_drop xs i x within here) ∙ (ap (λ o. onto made (option_and_then (λ z. option_and_then (λ ys. Some (z ∷ ys)) (each_of f (drop (i + 1) xs))) o)) is ∙ onto_one made y _))

-- items as a list are the list that they are made of
pub list_of-items_of : (ds : List Data) → list_of (items_of ds) ≡ ds
list_of-items_of [] = refl
list_of-items_of (d ∷ ds) = ap (λ l. d ∷ l) (list_of-items_of ds)

-- each value of a mapped list
pub each_of-map : {A B C : Type 0} (g : A → B) (f : B → Option C) (xs : List A) → each_of f (map g xs) ≡ each_of (λ x. f (g x)) xs
each_of-map g f [] = refl
each_of-map g f (x ∷ xs) = ap (λ o. option_and_then (λ y. option_and_then (λ ys. Some (y ∷ ys)) o) (f (g x))) (each_of-map g f xs)

-- as many as there were
pub each_of-length : {A B : Type 0} (f : A → Option B) (xs : List A) (ys : List B) → each_of f xs ≡ Some ys → length ys ≡ length xs
each_of-length f [] ys is = let none : [] ≡ ys = cc in ap length (sym none)
each_of-length f (x ∷ xs) ys is =
    elim (f x) as (λ o. option_and_then (λ y. option_and_then (λ ys. Some (y ∷ ys)) (each_of f xs)) o ≡ Some ys → length ys ≡ suc (length xs)) [
      | None ↦ λ e. cc
      | Some y ↦ λ e. elim (each_of f xs) as (λ p. each_of f xs ≡ p → option_and_then (λ ys. Some (y ∷ ys)) p ≡ Some ys → length ys ≡ suc (length xs)) [
        | None ↦ λ q e. cc
        | Some zs ↦ λ q e. let all : y ∷ zs ≡ ys = cc in ap length (sym all) ∙ ap suc (each_of-length f xs zs q)
      ] refl e
    ] is

-- what each value that f gives passes, all pass
pub each_of-passes : {A B : Type 0} (f : A → Option B) (p : B → Bool) → ((x : A) (y : B) → f x ≡ Some y → p y ≡ true) → (xs : List A) (ys : List B) → each_of f xs ≡ Some ys → list_all p ys ≡ true
each_of-passes f p h [] ys is = let none : [] ≡ ys = cc in ap (list_all p) (sym none)
each_of-passes f p h (x ∷ xs) ys is =
    elim (f x) as (λ o. f x ≡ o → option_and_then (λ y. option_and_then (λ ys. Some (y ∷ ys)) (each_of f xs)) o ≡ Some ys → list_all p ys ≡ true) [
      | None ↦ λ first e. cc
      | Some y ↦ λ first e. elim (each_of f xs) as (λ o. each_of f xs ≡ o → option_and_then (λ ys. Some (y ∷ ys)) o ≡ Some ys → list_all p ys ≡ true) [
        | None ↦ λ q e. cc
        | Some zs ↦ λ q e. let all : y ∷ zs ≡ ys = cc in ap (list_all p) (sym all) ∙ rw (h x y first, each_of-passes f p h xs zs q) refl
      ] refl e
    ] refl is

-- what is given under a test
pub given : {A : Type 0} (b : Bool) (x y : A) → (if b then Some x else None) ≡ Some y → (b ≡ true) × (x ≡ y)
given true x y e = (refl, cc)
given false x y e = absurd (cc e)
