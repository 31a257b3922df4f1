-- A feature, once all that comes before its zoom is known.
use Rattle.std.proofs.Common.{◌≡◌, ◌∙◌, ◌==◌, ◌&&◌, ℕ, ℤ, true, false, nat_le, List, length, refl, sym, ap, Option, None, Some, Result, Ok, Err, ok_or}
use Rattle.std.specs.Prelude.{option_and_then, option_map, is_some}
use Rattle.std.specs.List.{list_all}
use Rattle.geo_base.specs.TileView.{TileView}
use Rattle.geo_text.specs.Numbers.{below}
use Rattle.geo_layer.specs.Json.{◌>>=◌, wanted}
use Rattle.geo_layer.specs.Layer.{LayerView}
use Rattle.feature_json.specs.Shape.{shape_of, present, natural_of, text_of}
use Rattle.feature_json.specs.Said.{said_by}
use Rattle.feature_json.specs.declared.properties.Properties.{Properties}
use Rattle.feature_json.specs.declared.members.FeatureMembers.{FeatureMembers}
use Rattle.feature_reader.specs.FeatureView.{FeatureView}
use Rattle.feature_reader.specs.Tiles.{rising}
use Rattle.feature_reader.specs.Feature.{feature_in, own_texts, score_of, relevance_of, all_phrases, level}
use Rattle.feature_reader.specs.declared.feature.FeatureFault.{FeatureFault}
use Rattle.feature_reader.specs.declared.feature.FeatureFault.TheVariants as fault

-- what is there is something
pub there : {A : Type 0} (o : Option A) → is_some o ≡ true → (x : A) × (o ≡ Some x)
there (Some x) e = (x, refl)
there None e = absurd (cc e)

-- what was read before the zoom is compared
pub record Known (m : FeatureMembers) (tiles : List TileView) (p : Properties) (identifier : ℕ) (words : List ℕ) (texts : List (List ℕ × List ℕ)) : Type 0 where
  pub properties : m.properties ≡ Some p
  pub id : Some identifier ≡ option_and_then (below 67108864) (option_and_then natural_of (option_map shape_of m.id))
  pub text : Some words ≡ option_and_then text_of (option_map shape_of p.text)
  pub own : own_texts p.own ≡ Some texts
  pub named : p.tiles_are_named ≡ true
  pub some : (nat_le 1 (length tiles) && nat_le (length tiles) 4096) ≡ true

module _ (layer : LayerView) (langs : List (List ℕ)) (m : FeatureMembers) (tiles : List TileView) (p : Properties) (id : ℕ) (text : List ℕ) (own : List (List ℕ × List ℕ)) (known : Known m tiles p id text own) where
  -- the feature, but for its level and the cap
  abbrev made : ℕ → ℕ → FeatureView
  made n cap = record { id = id; score = n; phrases = all_phrases layer.tokens langs cap text own; tiles = rising tiles }

  -- what is left of the rules
  abbrev rest : Result FeatureView FeatureFault
  rest =
      wanted (list_all (λ t. t.z == layer.zoom) tiles) fault.Zoom >>= λ _.
      ok_or (score_of (present (option_map shape_of p.score))) fault.Score >>= λ score.
      ok_or (relevance_of (present (option_map shape_of p.relev))) fault.Relev >>= λ cap.
      Ok (made (level layer.scoremax score) cap)

  up_to_zoom : feature_in layer langs (said_by tiles m) ≡ rest
  up_to_zoom = rw (known.properties, sym known.id, sym known.text, known.own, known.named, known.some) refl

  -- a tile has another zoom
  pub other_zoom : list_all (λ t. t.z == layer.zoom) tiles ≡ false → feature_in layer langs (said_by tiles m) ≡ Err fault.Zoom
  other_zoom not_all = up_to_zoom ∙ rw not_all refl

  module _ (all : list_all (λ t. t.z == layer.zoom) tiles ≡ true) where
    -- by what is left of the score and the relevance
    by_rest : (score : Option ℤ) (cap : Option ℕ) → score_of (present (option_map shape_of p.score)) ≡ score → relevance_of (present (option_map shape_of p.relev)) ≡ cap
        → feature_in layer langs (said_by tiles m) ≡ (ok_or score fault.Score >>= λ score. ok_or cap fault.Relev >>= λ cap. Ok (made (level layer.scoremax score) cap))
    by_rest score cap is_score is_cap = up_to_zoom ∙ rw (all, is_score, is_cap) refl

    -- a score that isn't whole
    pub bad_score : None ≡ option_map (level layer.scoremax) (score_of (present (option_map shape_of p.score))) → feature_in layer langs (said_by tiles m) ≡ Err fault.Score
    bad_score none = by (score_of (present (option_map shape_of p.score))) refl none
      where
        by : (o : Option ℤ) → score_of (present (option_map shape_of p.score)) ≡ o → None ≡ option_map (level layer.scoremax) o → feature_in layer langs (said_by tiles m) ≡ Err fault.Score
        by None is none = by_rest None _ is refl
        by (Some score) is none = absurd (cc none)

    -- a relevance that is none
    pub bad_relevance : (n : ℕ) → Some n ≡ option_map (level layer.scoremax) (score_of (present (option_map shape_of p.score))) → None ≡ relevance_of (present (option_map shape_of p.relev)) → feature_in layer langs (said_by tiles m) ≡ Err fault.Relev
    bad_relevance n some none = by (score_of (present (option_map shape_of p.score))) refl some
      where
        by : (o : Option ℤ) → score_of (present (option_map shape_of p.score)) ≡ o → Some n ≡ option_map (level layer.scoremax) o → feature_in layer langs (said_by tiles m) ≡ Err fault.Relev
        by None is some = absurd (cc some)
        by (Some score) is some = by_rest (Some score) None is (sym none)

    -- all parts are known
    pub whole_feature : (n cap : ℕ) → Some n ≡ option_map (level layer.scoremax) (score_of (present (option_map shape_of p.score))) → Some cap ≡ relevance_of (present (option_map shape_of p.relev))
        → feature_in layer langs (said_by tiles m) ≡ Ok (record { id = id; score = n; phrases = all_phrases layer.tokens langs cap text own; tiles = rising tiles })
    whole_feature n cap some capped = by (score_of (present (option_map shape_of p.score))) refl some
      where
        by : (o : Option ℤ) → score_of (present (option_map shape_of p.score)) ≡ o → Some n ≡ option_map (level layer.scoremax) o → feature_in layer langs (said_by tiles m) ≡ Ok (made n cap)
        by None is some = absurd (cc some)
        by (Some score) is some = by_rest (Some score) (Some cap) is (sym capped) ∙ (let same : level layer.scoremax score ≡ n = cc some in ap (λ n. Ok (made n cap)) same)
