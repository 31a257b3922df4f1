-- A line that puts a feature, once its layer's number is read.
use Rattle.std.proofs.Common.{◌≡◌, ◌∙◌, ◌<◌, ◌≤◌, ℕ, List, length, Some, Result, Ok, Err, IfOk, refl, ap, subst, inl, inr, arith}
use Rattle.std.specs.Prelude.{ok_or, slice_get}
use Rattle.std.proofs.lemmas.Option.{slice_get_past, slice_get_cases}
use Rattle.geo_text.specs.Numbers.{number_of}
use Rattle.geo_text.specs.Words.{first_word}
use Rattle.geo_layer.specs.Json.{◌>>=◌}
use Rattle.geo_layer.specs.Layer.{LayerView}
use Rattle.geo_layer.specs.declared.head.Head.{Head}
use Rattle.feature_reader.specs.Feature.{feature_of}
use Rattle.session_text.specs.Lines.{next_field}
use Rattle.geo_base.specs.declared.refusal.Refused.{Refused}
use Rattle.feature_reader.proofs.Zooms.{bind_ok}
use Rattle.session_text.specs.Session.{SessionView, Fits, of_feature, put_line}
use Rattle.session_text.specs.declared.body.BodyLine.TheVariants.{Put}
use Rattle.session_text.specs.declared.item.Item.{Item}
use Rattle.session_text.specs.declared.item.Item.TheVariants.{Body}
use Rattle.session_text.specs.declared.why.Why.{Why}
use Rattle.session_text.specs.declared.why.Why.TheVariants as why

-- a step that gave something
goes : {A B : Type 0} (first : Result A Why) (next : A → Result B Why) (x : A) (last : Result B Why) → first ≡ Ok x → next x ≡ last → (first >>= next) ≡ last
goes first next x last is rest = ap (λ r. r >>= next) is ∙ rest

-- and one that is refused
stops : {A B : Type 0} (first : Result A Why) (next : A → Result B Why) (w : Why) → first ≡ Err w → (first >>= next) ≡ Err w
stops first next w is = ap (λ r. r >>= next) is

-- the feature that the line puts into this layer
abbrev pub Putting : Head → List ℕ → ℕ → LayerView → Result Item Why
Putting head text n layer = of_feature (feature_of layer head.langs (next_field (next_field text))) >>= λ f. Ok (Body (Put n f))

module _ (head : Head) (text : List ℕ) (n : ℕ) (is : number_of (first_word (next_field text)) ≡ Some n) where
  -- the layer isn't there
  pub put_no_layer : length head.layers ≤ n → put_line head text ≡ Err why.Number
  put_no_layer past =
      goes (ok_or (number_of (first_word (next_field text))) why.Form) _ n _ (ap (λ o. ok_or o why.Form) is) (
      stops (ok_or (slice_get head.layers n) why.Number) _ why.Number (ap (λ o. ok_or o why.Number) (slice_get_past head.layers n past)))

  -- the layer is there
  pub put_there : n < length head.layers → (layer : LayerView) × (put_line head text ≡ Putting head text n layer)
  put_there within = elim (slice_get_cases head.layers n).1 [
    | inl (layer, inside, there, read) ↦ (
      layer,
      goes (ok_or (number_of (first_word (next_field text))) why.Form) _ n _ (ap (λ o. ok_or o why.Form) is) (
          goes (ok_or (slice_get head.layers n) why.Number) _ layer _ (ap (λ o. ok_or o why.Number) there) refl),
    )
    | inr past ↦ absurd (omega (arith, within, past.0))
  ]

-- a put asks nothing, so it can be added
pub put_can_be_added : (s : SessionView) (head : Head) (text : List ℕ) (r : Result Item (Refused Why)) → IfOk r (λ item. put_line head text ≡ Ok item) → IfOk r (λ item. Fits s item)
put_can_be_added s head text (Err e) is = tt
put_can_be_added s head text (Ok item) is =
    let (n, is_n, e₁) = bind_ok (ok_or (number_of (first_word (next_field text))) why.Form) _ item is in
    let (layer, is_layer, e₂) = bind_ok (ok_or (slice_get head.layers n) why.Number) _ item e₁ in
    let (f, is_f, e₃) = bind_ok (of_feature (feature_of layer head.langs (next_field (next_field text)))) _ item e₂ in
    let same : Body (Put n f) ≡ item = cc e₃ in
    subst (Fits s) same (λ asks. absurd (cc asks))
