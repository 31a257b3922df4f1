-- The tokens of a query with the replacements of each layer, by the number of the layer.
use Rattle.std.proofs.Common.{◌≡◌, ◌∙◌, ◌+◌, ◌≤◌, ℕ, zero, suc, List, [], ◌∷◌, ◌++◌, length, take, map, get_or, None, Some, refl, sym, ap, arith}
use Rattle.std.specs.Prelude.{slice_get, unwrap_or, option_map}
use Rattle.std.proofs.lemmas.List.{take_more, map-append}
use Rattle.std.proofs.lemmas.Option.{slice_get-map, slice_get_within, unwrap_or-slice_get}

-- what stands at a place of a mapped list
pub mapped_at : {A B : Type 0} (g : A → B) (xs : List A) (ys : List B) (k : ℕ) (x : A) (y : B) → ys ≡ map g xs → slice_get xs k ≡ Some x → y ≡ get_or ys k y → y ≡ g x
mapped_at g xs ys k x y same there here =
    let found : slice_get ys k ≡ Some (g x) = ap (λ l. slice_get l k) same ∙ (slice_get-map g xs k ∙ ap (option_map g) there) in
    here ∙ (sym (unwrap_or-slice_get ys k y) ∙ ap (λ o. unwrap_or o y) found)

-- one more
pub mapped_more : {A B : Type 0} (g : A → B) (xs : List A) (old new : List B) (k : ℕ) (x : A) (y : B) → old ≡ map g (take k xs) → slice_get xs k ≡ Some x → y ≡ g x → new ≡ old ++ y ∷ [] → new ≡ map g (take (k + 1) xs)
mapped_more g xs old new k x y so_far there is grown =
    let here : get_or xs k x ≡ x = sym (unwrap_or-slice_get xs k x) ∙ ap (λ o. unwrap_or o x) there in
    grown ∙ ap (λ l. l ++ y ∷ []) so_far ∙ ap (λ z. map g (take k xs) ++ z ∷ []) (is ∙ ap g (sym here))
    ∙ sym (ap (map g) (take_more xs k x (slice_get_within xs k x there)) ∙ map-append g (take k xs) (get_or xs k x ∷ []))

-- nothing stands past the end
pub past_end : {A : Type 0} (xs : List A) (k : ℕ) → length xs ≤ k → slice_get xs k ≡ None
past_end [] k h = refl
past_end (x ∷ xs) k h = elim k as (λ k. length (x ∷ xs) ≤ k → slice_get (x ∷ xs) k ≡ None) [ zero ↦ λ l. absurd (omega (arith, l)) | suc n ↦ λ l. past_end xs n (omega (arith, l)) ] h
