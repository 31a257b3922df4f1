-- The tiles of a feature that was read have the zoom of its layer.
use Rattle.std.proofs.Common.{◌≡◌, ◌==◌, ℕ, Bool, true, false, List, All, Result, Ok, Err, refl, sym, subst}
use Rattle.std.specs.Prelude.{option_and_then, ok_or}
use Rattle.std.specs.List.{list_all}
use Rattle.std.proofs.lemmas.Bool.{eqb-true}
use Rattle.std.proofs.lemmas.List.Elements.{All-weaker}
use Rattle.std.proofs.lemmas.List.Sums.{AllPass-from_list_all}
use Rattle.geo_base.specs.TileView.{TileView}
use Rattle.geo_text.specs.Numbers.{below}
use Rattle.geo_layer.specs.Json.{◌>>=◌, wanted}
use Rattle.geo_layer.specs.Layer.{LayerView}
use Rattle.feature_json.specs.Shape.{present, natural_of, text_of}
use Rattle.feature_json.specs.Said.{Said, said}
use Rattle.feature_reader.specs.FeatureView.{FeatureView}
use Rattle.feature_reader.specs.Tiles.{rising, some_tiles}
use Rattle.feature_reader.specs.Feature.{feature_in, feature_of, own_texts, score_of, relevance_of, level, all_phrases}
use Rattle.feature_reader.specs.declared.feature.FeatureFault.{FeatureFault}
use Rattle.feature_reader.specs.declared.feature.FeatureFault.TheVariants as fault
use Rattle.feature_reader.proofs.Rising.{rising_all}

-- ---- steps that gave something

pub bind_ok : {A B E : Type 0} (r : Result A E) (f : A → Result B E) (y : B) → (r >>= f) ≡ Ok y → (x : A) × (r ≡ Ok x) × (f x ≡ Ok y)
bind_ok (Ok x) f y e = (x, refl, e)
bind_ok (Err fault) f y e = absurd (cc e)

pub wanted_ok : {E : Type 0} (b : Bool) (fault : E) (y : Unit {0}) → wanted b fault ≡ Ok y → b ≡ true
wanted_ok true fault y e = refl
wanted_ok false fault y e = absurd (cc e)

-- ---- the zoom of a feature's tiles

-- a feature's tiles have this zoom
abbrev pub AtZoom : ℕ → FeatureView → Type 0
AtZoom zoom f = All (λ t. t.z ≡ zoom) f.tiles

test_all : (zoom : ℕ) (tiles : List TileView) → list_all (λ t. t.z == zoom) tiles ≡ true → All (λ t. t.z ≡ zoom) tiles
test_all zoom tiles e = All-weaker (λ t. (t.z == zoom) ≡ true) (λ t. t.z ≡ zoom) (λ t is. eqb-true t.z zoom is) tiles (AllPass-from_list_all (λ (t : TileView). t.z == zoom) tiles e)

-- the tiles by which a feature was read
made_of : {T : Type 0} (zoom : ℕ) (r : Result T FeatureFault) (made : T → FeatureView) (tiles : List TileView) (f : FeatureView) → ((x : T) → (made x).tiles ≡ rising tiles) → list_all (λ t. t.z == zoom) tiles ≡ true → (r >>= λ x. Ok (made x)) ≡ Ok f → AtZoom zoom f
made_of zoom r made tiles f are all e =
    let (x, is_x, is) = bind_ok r (λ x. Ok (made x)) f e in
    let same : made x ≡ f = cc is in
    subst (AtZoom zoom) same (subst (λ (ts : List TileView). All (λ t. t.z ≡ zoom) ts) (sym (are x)) (rising_all (λ t. t.z ≡ zoom) tiles (test_all zoom tiles all)))

-- the feature of which this is said
pub in_zoom : (layer : LayerView) (langs : List (List ℕ)) (said : Said) (f : FeatureView) → feature_in layer langs said ≡ Ok f → AtZoom layer.zoom f
in_zoom layer langs said f e =
    let (p, is_properties, e₁) = bind_ok (ok_or said.properties fault.Json) _ f e in
    let (id, is_id, e₂) = bind_ok (ok_or (option_and_then (below 67108864) (option_and_then natural_of said.id)) fault.Id) _ f e₁ in
    let (text, is_text, e₃) = bind_ok (ok_or (option_and_then text_of p.values.text) fault.Text) _ f e₂ in
    let (own, is_own, e₄) = bind_ok (ok_or (own_texts p.values.own) fault.Text) _ f e₃ in
    let (listed, is_listed, e₅) = bind_ok (ok_or (option_and_then some_tiles p.tiles) fault.Zxy) _ f e₄ in
    let (u, at_zoom, e₆) = bind_ok (wanted (list_all (λ t. t.z == layer.zoom) listed) fault.Zoom) _ f e₅ in
    let (score, is_score, e₇) = bind_ok (ok_or (score_of (present p.values.score)) fault.Score) _ f e₆ in
    made_of layer.zoom (ok_or (relevance_of (present p.values.relev)) fault.Relev)
    (λ cap. record { id = id; score = level layer.scoremax score; phrases = all_phrases layer.tokens langs cap text own; tiles = rising listed }) listed f (λ x. refl) (wanted_ok (list_all (λ t. t.z == layer.zoom) listed) fault.Zoom u at_zoom) e₇

-- a feature that was read in a layer has the layer's zoom
pub feature_zoom : (layer : LayerView) (langs : List (List ℕ)) (bytes : List ℕ) (f : FeatureView) → feature_of layer langs bytes ≡ Ok f → All (λ t. t.z ≡ layer.zoom) f.tiles
feature_zoom layer langs bytes f e =
    let (found, is_found, e₁) = bind_ok (ok_or (said bytes) fault.Json) (λ found. feature_in layer langs found) f e in
    in_zoom layer langs found f e₁
