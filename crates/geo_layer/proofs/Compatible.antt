-- Two layers are compatible in either order.
use Rattle.std.proofs.Common.{◌≡◌, ◌∙◌, ◌||◌, ◌&&◌, not, ℕ, Bool, true, false, List, [], ◌∷◌, bytes_eq, refl, ap, Option, None, Some}
use Rattle.std.specs.List.{list_any}
use Rattle.geo_layer.specs.Layer.{LayerView, are_compatible, both_compatible, share_word}
use Rattle.geo_layer.proofs.SameBytes.{bytes_eq-turned}

-- no text passes a test that none passes
none_pass : (ys : List (List ℕ)) → false ≡ list_any (λ y. false) ys
none_pass [] = refl
none_pass (y ∷ ys) = none_pass ys

-- four tests, taken in another order
four : (a b c d : Bool) → ((a || b) || (c || d)) ≡ ((a || c) || (b || d))
four true b c d = refl
four false true true d = refl
four false true false d = refl
four false false c d = refl

-- a text is one of these, or one of those is
one_or_other : (x : List ℕ) (xs ys : List (List ℕ)) → (list_any (bytes_eq x) ys || list_any (λ y. list_any (bytes_eq y) xs) ys) ≡ list_any (λ y. list_any (bytes_eq y) (x ∷ xs)) ys
one_or_other x xs [] = refl
one_or_other x xs (y ∷ ys) =
    four (bytes_eq x y) (list_any (bytes_eq x) ys) (list_any (bytes_eq y) xs) (list_any (λ y. list_any (bytes_eq y) xs) ys)
    ∙ (ap (λ b. (b || list_any (bytes_eq y) xs) || (list_any (bytes_eq x) ys || list_any (λ y. list_any (bytes_eq y) xs) ys)) (bytes_eq-turned x y)
    ∙ ap (λ b. (bytes_eq y x || list_any (bytes_eq y) xs) || b) (one_or_other x xs ys))

-- one of these is one of those exactly where one of those is one of these
shared_turned : (xs ys : List (List ℕ)) → list_any (λ x. list_any (bytes_eq x) ys) xs ≡ list_any (λ y. list_any (bytes_eq y) xs) ys
shared_turned [] ys = none_pass ys
shared_turned (x ∷ xs) ys = ap (λ b. list_any (bytes_eq x) ys || b) (shared_turned xs ys) ∙ one_or_other x xs ys

share_word-turned : (xs ys : Option (List (List ℕ))) → share_word xs ys ≡ share_word ys xs
share_word-turned None None = refl
share_word-turned None (Some ys) = refl
share_word-turned (Some xs) None = refl
share_word-turned (Some xs) (Some ys) = shared_turned xs ys

are_compatible-turned : (a b : LayerView) → are_compatible a b ≡ are_compatible b a
are_compatible-turned a b = ap (λ same. not same && share_word a.stack b.stack) (bytes_eq-turned a.name b.name) ∙ ap (λ share. not (bytes_eq b.name a.name) && share) (share_word-turned a.stack b.stack)

pub both_compatible-turned : (a b : Option LayerView) → both_compatible a b ≡ both_compatible b a
both_compatible-turned None None = refl
both_compatible-turned None (Some b) = refl
both_compatible-turned (Some a) None = refl
both_compatible-turned (Some a) (Some b) = are_compatible-turned a b
