-- What the parts of a layer keep, and one layer more.
use Rattle.std.proofs.Common.{◌≡◌, ◌∙◌, ◌<◌, ◌≤◌, ℕ, true, false, List, [], ◌∷◌, ◌++◌, length, map, nat_le, nat_lt, ◌&&◌, refl, sym, ap, subst, arith, length-append, All, Option, None, Some, Ok, Err}
use Rattle.std.specs.Prelude.{option_and_then, option_map, if◌then◌else◌, Result, IfSome}
use Rattle.std.specs.List.{AllPairs, fold}
use Rattle.std.proofs.lemmas.Bool.{and_parts, leb-true, ltb-true, le-leb, lt-leb}
use Rattle.std.proofs.lemmas.List.{length-map}
use Rattle.std.proofs.lemmas.Option.{option_and_then_some}
use Rattle.std.proofs.lemmas.List.Elements.{All-nil, All-cons, All-head, All-tail, All-push}
use Rattle.std.proofs.lemmas.List.Quantifiers.{all_pairs_push}
use Rattle.geo_base.proofs.Members.{pairs_head, pairs_tail}
use Rattle.serde_json.specs.Data.{Data}
use Rattle.serde_json.specs.Find.{as_str, as_array}
use Rattle.serde_json.specs.View.{view, items_view}
use Rattle.serde_json.specs.declared.value.Value.{Value}
use Rattle.geo_text.specs.Numbers.{below}
use Rattle.geo_text.specs.Tokens.{Replacements}
use Rattle.geo_layer.specs.Json.{each_of, list_of, natural_of, optional}
use Rattle.geo_layer.specs.Layer.{LayerView, IsLayer, AreLayers, is_name, are_stack_words}
use Rattle.geo_layer.specs.LayerText.{last_zoom, name_of, stack_of, replacements_of, scale_of}
use Rattle.geo_layer.specs.declared.layer.LayerFault.{LayerFault}
use Rattle.geo_layer.specs.declared.layer.LayerFault.TheVariants as fault
use Rattle.geo_layer.proofs.Each.{list_of-items_of, each_of-map, each_of-length, each_of-passes, given}
use Rattle.geo_layer.proofs.TokenFacts.{few_tokens}

-- no zoom of the rest is below n, so neither is the last
last_from : (n z : ℕ) (layers : List LayerView) → n ≤ z → All (λ b. n ≤ b.zoom) layers → n ≤ fold (λ z layer. layer.zoom) z layers
last_from n z [] low all = low
last_from n z (layer ∷ layers) low all = last_from n layer.zoom layers (All-head (λ b. n ≤ b.zoom) layer layers all) (All-tail (λ b. n ≤ b.zoom) layer layers all)

-- no zoom is above the last
below_last : (z : ℕ) (layers : List LayerView) → AllPairs (λ a b. a.zoom ≤ b.zoom) layers → All (λ a. a.zoom ≤ fold (λ z layer. layer.zoom) z layers) layers
below_last z [] rising = All-nil (λ a. a.zoom ≤ z)
below_last z (layer ∷ layers) rising =
    All-cons (λ a. a.zoom ≤ fold (λ z layer. layer.zoom) layer.zoom layers) layer layers
    (last_from layer.zoom layer.zoom layers (omega arith) (pairs_head (λ a b. a.zoom ≤ b.zoom) layer layers rising))
    (below_last layer.zoom layers (pairs_tail (λ a b. a.zoom ≤ b.zoom) layer layers rising))

-- one layer more
pub one_layer : (layers : List LayerView) (layer : LayerView) → AreLayers layers → IsLayer layer → length layers < 16 → last_zoom layers ≤ layer.zoom → AreLayers (layers ++ layer ∷ [])
one_layer layers layer are is few rising =
    let low = below_last 0 layers are.rising in
    record {
      few = omega (arith, few, length-append layers (layer ∷ []));
      each = All-push IsLayer layers layer are.each is;
      rising = all_pairs_push (λ a b. a.zoom ≤ b.zoom) layers layer are.rising (λ k d l. omega (arith, low k d l, rising));
    }

-- ---- the parts of a layer

name_of-is : (d : Data) (name : List ℕ) → name_of d ≡ Some name → is_name name ≡ true
name_of-is d name is =
    option_and_then_some (λ text. if is_name text then Some text else None) (as_str d) name is
    (λ text _ e. let both = given (is_name text) text name e in ap is_name (sym both.1) ∙ both.0)

-- what was read as a name is one
pub name-is : (d : Option Data) (name : List ℕ) → Some name ≡ option_and_then name_of d → is_name name ≡ true
name-is d name is = option_and_then_some name_of d name (sym is) (λ x _ e. name_of-is x name e)

-- what was read as a zoom is one
pub zoom-is : (n : Option ℕ) (zoom : ℕ) → Some zoom ≡ option_and_then (below 17) n → zoom ≤ 16
zoom-is n zoom is =
    option_and_then_some (below 17) n zoom (sym is)
    (λ x _ e. let both = given (nat_lt x 17) x zoom e in let low = ltb-true x 17 both.0 in omega (arith, low, both.1))

-- the stack that a list of values is
abbrev stack_of_list : List Data → Option (Option (List (List ℕ)))
stack_of_list ds = if nat_le (length ds) 64 then option_map Some (each_of name_of ds) else None

-- the names that these values are
pub stack_of-values : (d : Data) (vs : List Value) → Some (items_view vs) ≡ as_array d → length vs ≤ 64 → option_map Some (each_of (λ v. name_of (view v)) vs) ≡ stack_of d
stack_of-values d vs is few =
    let many : length (map view vs) ≡ length vs = length-map _ _ in
    let whole : stack_of_list (map view vs) ≡ option_map Some (each_of (λ v. name_of (view v)) vs) = rw (many, le-leb (length vs) 64 few) (ap (option_map Some) (each_of-map view name_of vs)) in
    sym (ap (option_and_then (λ items. stack_of_list (list_of items))) (sym is) ∙ (ap stack_of_list (list_of-items_of (map view vs)) ∙ whole))

-- too many values
pub many_values : (d : Data) (vs : List Value) → Some (items_view vs) ≡ as_array d → 64 < length vs → None ≡ stack_of d
many_values d vs is more =
    let many : length (map view vs) ≡ length vs = length-map _ _ in
    let none : stack_of_list (map view vs) ≡ None = rw (many, lt-leb (length vs) 64 more) refl in
    sym (ap (option_and_then (λ items. stack_of_list (list_of items))) (sym is) ∙ (ap stack_of_list (list_of-items_of (map view vs)) ∙ none))

stack_of-is : (d : Data) (stack : Option (List (List ℕ))) → stack_of d ≡ Some stack → IfSome stack (λ words. are_stack_words words ≡ true)
stack_of-is d stack is =
    option_and_then_some (λ items. stack_of_list (list_of items)) (as_array d) stack is
    (λ items _ e. elim (nat_le (length (list_of items)) 64) as (λ b. nat_le (length (list_of items)) 64 ≡ b → (if b then option_map Some (each_of name_of (list_of items)) else None) ≡ Some stack → IfSome stack (λ words. are_stack_words words ≡ true)) [
      | true ↦ λ few f. elim (each_of name_of (list_of items)) as (λ o. each_of name_of (list_of items) ≡ o → option_map Some o ≡ Some stack → IfSome stack (λ words. are_stack_words words ≡ true)) [
        | None ↦ λ q g. absurd (cc g)
        | Some words ↦ λ q g.
            let same : Some words ≡ stack = cc in
            let size = each_of-length name_of (list_of items) words q in
            let short = leb-true _ 64 few in
            let low : nat_le (length words) 64 ≡ true = le-leb (length words) 64 (omega (arith, size, short)) in
            subst (λ s. IfSome s (λ words. are_stack_words words ≡ true)) same (rw (low, each_of-passes name_of is_name name_of-is (list_of items) words q) refl)
      ] refl f
      | false ↦ λ few f. absurd (cc f)
    ] refl e)

scale_of-is : (d : Data) (n : ℕ) → scale_of d ≡ Some n → (1 ≤ n) × (n ≤ 1000000000)
scale_of-is d n is =
    option_and_then_some (λ n. if nat_le 1 n && nat_le n 1000000000 then Some n else None) (natural_of d) n is
    (λ x _ e. let both = given (nat_le 1 x && nat_le x 1000000000) x n e in
    let parts = and_parts (nat_le 1 x) (nat_le x 1000000000) both.0 in
    subst (λ n. (1 ≤ n) × (n ≤ 1000000000)) both.1 (leb-true 1 x parts.0, leb-true x 1000000000 parts.1))

-- what holds of the value for an absent one, and of each that may be read, holds of what was read
optional-is : {B : Type 0} (P : B → Type 0) (form : Data → Option B) (default : B) (e : LayerFault) → P default → ((d : Data) (x : B) → form d ≡ Some x → P x) → (d : Option Data) (x : B) → Ok x ≡ optional form default e d → P x
optional-is P form default e absent each None x is = let same : default ≡ x = cc in subst P same absent
optional-is {B = B} P form default e absent each (Some d) x is = by (form d) refl is
  where
    by : (o : Option B) → form d ≡ o → ◌≡◌ {A = Result B LayerFault} (Ok x) (elim o [ None ↦ Err e | Some y ↦ Ok y ]) → P x
    by None q i = absurd (cc i)
    by (Some y) q i = let same : y ≡ x = cc in subst P same (each d y q)

-- what was read as a stack is one
pub stack-is : (d : Option Data) (stack : Option (List (List ℕ))) → Ok stack ≡ optional stack_of None fault.Stack d → IfSome stack (λ words. are_stack_words words ≡ true)
stack-is d stack is = optional-is (λ s. IfSome s (λ words. are_stack_words words ≡ true)) stack_of None fault.Stack tt stack_of-is d stack is

-- what was read as tokens is no more than 4,096
pub tokens-few : (d : Option Data) (tokens : Replacements) → Ok tokens ≡ optional replacements_of [] fault.Tokens d → length tokens ≤ 4096
tokens-few d tokens is = optional-is (λ tokens. length tokens ≤ 4096) replacements_of [] fault.Tokens (omega arith) few_tokens d tokens is

-- what was read as a scale is one
pub scale-is : (d : Option Data) (n : ℕ) → Ok n ≡ optional scale_of 15 fault.ScoreMax d → (1 ≤ n) × (n ≤ 1000000000)
scale-is d n is = optional-is (λ n. (1 ≤ n) × (n ≤ 1000000000)) scale_of 15 fault.ScoreMax (omega arith, omega arith) scale_of-is d n is
