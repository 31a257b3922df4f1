-- Which faults of a line may come after room was asked for.
use Rattle.std.proofs.Common.{◌≡◌, ◌<◌, ℕ, false, List, length, Some, Result, Ok, Err, refl, sym, subst}
use Rattle.geo_text.specs.Numbers.{number_of}
use Rattle.geo_text.specs.Words.{first_word}
use Rattle.geo_layer.specs.Json.{◌>>=◌}
use Rattle.geo_layer.specs.Layer.{LayerView}
use Rattle.geo_layer.specs.LayerText.{layer_of}
use Rattle.geo_layer.specs.declared.head.Head.{Head}
use Rattle.geo_layer.specs.declared.layer.LayerFault.{LayerFault}
use Rattle.feature_reader.specs.Feature.{feature_of}
use Rattle.feature_reader.specs.declared.feature.FeatureFault.{FeatureFault}
use Rattle.session_text.specs.Lines.{next_field}
use Rattle.session_text.specs.Session.{of_layer, of_feature, layer_line, put_line, needs_no_room}
use Rattle.session_text.specs.declared.body.BodyLine.TheVariants.{Put}
use Rattle.session_text.specs.declared.item.Item.TheVariants.{Layer, Body}
use Rattle.session_text.specs.declared.why.Why.{Why}
use Rattle.session_text.specs.declared.why.Why.TheVariants as why
use Rattle.session_text.proofs.PutFacts.{put_there}

-- each fault that the step may have may come after room was asked for
abbrev Late : {A : Type 0} → Result A Why → Type 0
Late r = (fault : Why) → r ≡ Err fault → needs_no_room fault ≡ false

late_ok : {A : Type 0} (x : A) → Late {A = A} (Ok x)
late_ok x fault e = absurd (cc e)

late_fault : {A : Type 0} (w : Why) → needs_no_room w ≡ false → Late {A = A} (Err w)
late_fault w late fault e = let same : w ≡ fault = cc e in subst (λ (f : Why). needs_no_room f ≡ false) same late

-- so do two steps
late_steps : {A B : Type 0} (first : Result A Why) (next : A → Result B Why) → Late first → ((x : A) → Late (next x)) → Late (first >>= next)
late_steps (Ok x) next one two = two x
late_steps (Err w) next one two = late_fault w (one w refl)

late_layer : {A : Type 0} (r : Result A LayerFault) → Late (of_layer r)
late_layer (Ok x) = late_ok x
late_layer (Err fault) = late_fault (why.Layer fault) refl

late_feature : {A : Type 0} (r : Result A FeatureFault) → Late (of_feature r)
late_feature (Ok x) = late_ok x
late_feature (Err fault) = late_fault (why.Feature fault) refl

-- ---- the lines that need room

pub layer_late : (layers : List LayerView) (text : List ℕ) → Late (layer_line layers text)
layer_late layers text = late_steps (of_layer (layer_of layers (next_field text))) _ (late_layer (layer_of layers (next_field text))) (λ layer. late_ok (Layer layer))

-- a put into a layer that is there
pub put_late : (head : Head) (text : List ℕ) (n : ℕ) → number_of (first_word (next_field text)) ≡ Some n → n < length head.layers → Late (put_line head text)
put_late head text n is within =
    let (layer, put) = put_there head text n is within in
    subst Late (sym put) (late_steps (of_feature (feature_of layer head.langs (next_field (next_field text)))) _ (late_feature (feature_of layer head.langs (next_field (next_field text)))) (λ f. late_ok (Body (Put n f))))
