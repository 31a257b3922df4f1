use Rattle.std.proofs.Common.{◌≡◌, ◌∙◌, ◌==◌, ◌&&◌, true, false, nat_le, List, length, None, Some, Ok, Err, sym, ap, subst, rules}
use Rattle.std.specs.Prelude.{option_map, is_some}
use Rattle.std.specs.List.{list_all}
use Rattle.geo_text.specs.Tokens.{Replacements}
use Rattle.feature_json.specs.Shape.{shape_of, present}
use Rattle.feature_reader.specs.FeatureView.{FeatureView}
use Rattle.feature_reader.specs.Tiles.{rising}
use Rattle.feature_reader.specs.Feature.{own_texts, all_phrases, score_of, relevance_of, level}
use Rattle.feature_reader.specs.declared.phrase.Phrase.{Phrase}
use Rattle.feature_reader.specs.declared.feature.FeatureFault.TheVariants as fault
use Rattle.feature_reader.proofs.PhraseFacts.{AreFeaturePhrases, feature_phrases}
use Rattle.feature_reader.proofs.FeatureFacts.{there, Known, other_zoom, bad_score, bad_relevance, whole_feature}
use Rattle.feature_reader.proofs.rules.feature_of_members.Goals as goal

pub returns-then-not-are_at_zoom-clause-fault : goal.returns-then-not-are_at_zoom-clause-fault
returns-then-not-are_at_zoom-clause-fault c =
    let strings : is_some (own_texts c.in-Some.properties.own) ≡ true = search rules in
    let (own, own_is) = there (own_texts c.in-Some.properties.own) strings in
    let enough : (nat_le 1 (length c.args.tiles.now.items) && nat_le (length c.args.tiles.now.items) 4096) ≡ true = search rules in
    let known : Known c.args.members.now c.args.tiles.now.items c.in-Some.properties c.in-Some-id_of.id c.in-Some-text_of.text.now own = record { properties = search rules; id = search rules; text = search rules; own = own_is; named = search rules; some = enough } in
    let not_all : list_all (λ t. t.z == c.args.layer.now.zoom) c.args.tiles.now.items ≡ false = search rules in
    λ e same. other_zoom c.args.layer.now c.args.langs.now c.args.members.now c.args.tiles.now.items c.in-Some.properties c.in-Some-id_of.id c.in-Some-text_of.text.now own known not_all ∙ ap Err cc

pub returns-then-not-are_at_zoom-clause-outright : goal.returns-then-not-are_at_zoom-clause-outright
returns-then-not-are_at_zoom-clause-outright c =
    let strings : is_some (own_texts c.in-Some.properties.own) ≡ true = search rules in
    let (own, own_is) = there (own_texts c.in-Some.properties.own) strings in
    let enough : (nat_le 1 (length c.args.tiles.now.items) && nat_le (length c.args.tiles.now.items) 4096) ≡ true = search rules in
    let known : Known c.args.members.now c.args.tiles.now.items c.in-Some.properties c.in-Some-id_of.id c.in-Some-text_of.text.now own = record { properties = search rules; id = search rules; text = search rules; own = own_is; named = search rules; some = enough } in
    let not_all : list_all (λ t. t.z == c.args.layer.now.zoom) c.args.tiles.now.items ≡ false = search rules in
    λ e is. let same : Err fault.Zoom ≡ Err e = sym (other_zoom c.args.layer.now c.args.langs.now c.args.members.now c.args.tiles.now.items c.in-Some.properties c.in-Some-id_of.id c.in-Some-text_of.text.now own known not_all) ∙ is in cc

pub returns-in_default-level_of-clause-fault : goal.returns-in_default-level_of-clause-fault
returns-in_default-level_of-clause-fault c =
    let strings : is_some (own_texts c.in-Some.properties.own) ≡ true = search rules in
    let (own, own_is) = there (own_texts c.in-Some.properties.own) strings in
    let enough : (nat_le 1 (length c.args.tiles.now.items) && nat_le (length c.args.tiles.now.items) 4096) ≡ true = search rules in
    let known : Known c.args.members.now c.args.tiles.now.items c.in-Some.properties c.in-Some-id_of.id c.in-Some-text_of.text.now own = record { properties = search rules; id = search rules; text = search rules; own = own_is; named = search rules; some = enough } in
    let all : list_all (λ t. t.z == c.args.layer.now.zoom) c.args.tiles.now.items ≡ true = search rules in
    let none : None ≡ option_map (level c.args.layer.now.scoremax) (score_of (present (option_map shape_of c.in-Some.properties.score))) = sym c.in_default-level_of.is ∙ c.level_of.ensures ∙ ap (λ scoremax. option_map (level scoremax) (score_of (present (option_map shape_of c.in-Some.properties.score)))) c.scoremax.ensures.value in
    λ e same. bad_score c.args.layer.now c.args.langs.now c.args.members.now c.args.tiles.now.items c.in-Some.properties c.in-Some-id_of.id c.in-Some-text_of.text.now own known all none ∙ ap Err cc

pub returns-in_default-level_of-clause-outright : goal.returns-in_default-level_of-clause-outright
returns-in_default-level_of-clause-outright c =
    let strings : is_some (own_texts c.in-Some.properties.own) ≡ true = search rules in
    let (own, own_is) = there (own_texts c.in-Some.properties.own) strings in
    let enough : (nat_le 1 (length c.args.tiles.now.items) && nat_le (length c.args.tiles.now.items) 4096) ≡ true = search rules in
    let known : Known c.args.members.now c.args.tiles.now.items c.in-Some.properties c.in-Some-id_of.id c.in-Some-text_of.text.now own = record { properties = search rules; id = search rules; text = search rules; own = own_is; named = search rules; some = enough } in
    let all : list_all (λ t. t.z == c.args.layer.now.zoom) c.args.tiles.now.items ≡ true = search rules in
    let none : None ≡ option_map (level c.args.layer.now.scoremax) (score_of (present (option_map shape_of c.in-Some.properties.score))) = sym c.in_default-level_of.is ∙ c.level_of.ensures ∙ ap (λ scoremax. option_map (level scoremax) (score_of (present (option_map shape_of c.in-Some.properties.score)))) c.scoremax.ensures.value in
    λ e is. let same : Err fault.Score ≡ Err e = sym (bad_score c.args.layer.now c.args.langs.now c.args.members.now c.args.tiles.now.items c.in-Some.properties c.in-Some-id_of.id c.in-Some-text_of.text.now own known all none) ∙ is in cc

pub returns-in_default-cap_of-clause-fault : goal.returns-in_default-cap_of-clause-fault
returns-in_default-cap_of-clause-fault c =
    let strings : is_some (own_texts c.in-Some.properties.own) ≡ true = search rules in
    let (own, own_is) = there (own_texts c.in-Some.properties.own) strings in
    let enough : (nat_le 1 (length c.args.tiles.now.items) && nat_le (length c.args.tiles.now.items) 4096) ≡ true = search rules in
    let known : Known c.args.members.now c.args.tiles.now.items c.in-Some.properties c.in-Some-id_of.id c.in-Some-text_of.text.now own = record { properties = search rules; id = search rules; text = search rules; own = own_is; named = search rules; some = enough } in
    let all : list_all (λ t. t.z == c.args.layer.now.zoom) c.args.tiles.now.items ≡ true = search rules in
    let scored : Some c.in-Some-level_of.score ≡ option_map (level c.args.layer.now.scoremax) (score_of (present (option_map shape_of c.in-Some.properties.score))) = sym c.in-Some-level_of.is ∙ c.level_of.ensures ∙ ap (λ scoremax. option_map (level scoremax) (score_of (present (option_map shape_of c.in-Some.properties.score)))) c.scoremax.ensures.value in
    let none : None ≡ relevance_of (present (option_map shape_of c.in-Some.properties.relev)) = sym c.in_default-cap_of.is ∙ c.cap_of.ensures.value in
    λ e same. bad_relevance c.args.layer.now c.args.langs.now c.args.members.now c.args.tiles.now.items c.in-Some.properties c.in-Some-id_of.id c.in-Some-text_of.text.now own known all _ scored none ∙ ap Err cc

pub returns-in_default-cap_of-clause-outright : goal.returns-in_default-cap_of-clause-outright
returns-in_default-cap_of-clause-outright c =
    let strings : is_some (own_texts c.in-Some.properties.own) ≡ true = search rules in
    let (own, own_is) = there (own_texts c.in-Some.properties.own) strings in
    let enough : (nat_le 1 (length c.args.tiles.now.items) && nat_le (length c.args.tiles.now.items) 4096) ≡ true = search rules in
    let known : Known c.args.members.now c.args.tiles.now.items c.in-Some.properties c.in-Some-id_of.id c.in-Some-text_of.text.now own = record { properties = search rules; id = search rules; text = search rules; own = own_is; named = search rules; some = enough } in
    let all : list_all (λ t. t.z == c.args.layer.now.zoom) c.args.tiles.now.items ≡ true = search rules in
    let scored : Some c.in-Some-level_of.score ≡ option_map (level c.args.layer.now.scoremax) (score_of (present (option_map shape_of c.in-Some.properties.score))) = sym c.in-Some-level_of.is ∙ c.level_of.ensures ∙ ap (λ scoremax. option_map (level scoremax) (score_of (present (option_map shape_of c.in-Some.properties.score)))) c.scoremax.ensures.value in
    let none : None ≡ relevance_of (present (option_map shape_of c.in-Some.properties.relev)) = sym c.in_default-cap_of.is ∙ c.cap_of.ensures.value in
    λ e is. let same : Err fault.Relev ≡ Err e = sym (bad_relevance c.args.layer.now c.args.langs.now c.args.members.now c.args.tiles.now.items c.in-Some.properties c.in-Some-id_of.id c.in-Some-text_of.text.now own known all _ scored none) ∙ is in cc

pub returns-in_err-phrases-clause-outright : goal.returns-in_err-phrases-clause-outright
returns-in_err-phrases-clause-outright c =
    let strings : is_some (own_texts c.in-Some.properties.own) ≡ true = search rules in
    let (own, own_is) = there (own_texts c.in-Some.properties.own) strings in
    let enough : (nat_le 1 (length c.args.tiles.now.items) && nat_le (length c.args.tiles.now.items) 4096) ≡ true = search rules in
    let known : Known c.args.members.now c.args.tiles.now.items c.in-Some.properties c.in-Some-id_of.id c.in-Some-text_of.text.now own = record { properties = search rules; id = search rules; text = search rules; own = own_is; named = search rules; some = enough } in
    let all : list_all (λ t. t.z == c.args.layer.now.zoom) c.args.tiles.now.items ≡ true = search rules in
    let scored : Some c.in-Some-level_of.score ≡ option_map (level c.args.layer.now.scoremax) (score_of (present (option_map shape_of c.in-Some.properties.score))) = sym c.in-Some-level_of.is ∙ c.level_of.ensures ∙ ap (λ scoremax. option_map (level scoremax) (score_of (present (option_map shape_of c.in-Some.properties.score)))) c.scoremax.ensures.value in
    let capped : Some c.in-Some-cap_of.cap ≡ relevance_of (present (option_map shape_of c.in-Some.properties.relev)) = sym c.in-Some-cap_of.is ∙ c.cap_of.ensures.value in
    λ e is. let both = sym (whole_feature c.args.layer.now c.args.langs.now c.args.members.now c.args.tiles.now.items c.in-Some.properties c.in-Some-id_of.id c.in-Some-text_of.text.now own known all c.in-Some-level_of.score c.in-Some-cap_of.cap scored capped) ∙ is in absurd (cc both)

pub returns-in_err-made-clause-outright : goal.returns-in_err-made-clause-outright
returns-in_err-made-clause-outright c =
    let strings : is_some (own_texts c.in-Some.properties.own) ≡ true = search rules in
    let (own, own_is) = there (own_texts c.in-Some.properties.own) strings in
    let enough : (nat_le 1 (length c.args.tiles.now.items) && nat_le (length c.args.tiles.now.items) 4096) ≡ true = search rules in
    let known : Known c.args.members.now c.args.tiles.now.items c.in-Some.properties c.in-Some-id_of.id c.in-Some-text_of.text.now own = record { properties = search rules; id = search rules; text = search rules; own = own_is; named = search rules; some = enough } in
    let all : list_all (λ t. t.z == c.args.layer.now.zoom) c.args.tiles.now.items ≡ true = search rules in
    let scored : Some c.in-Some-level_of.score ≡ option_map (level c.args.layer.now.scoremax) (score_of (present (option_map shape_of c.in-Some.properties.score))) = sym c.in-Some-level_of.is ∙ c.level_of.ensures ∙ ap (λ scoremax. option_map (level scoremax) (score_of (present (option_map shape_of c.in-Some.properties.score)))) c.scoremax.ensures.value in
    let capped : Some c.in-Some-cap_of.cap ≡ relevance_of (present (option_map shape_of c.in-Some.properties.relev)) = sym c.in-Some-cap_of.is ∙ c.cap_of.ensures.value in
    λ e is. let both = sym (whole_feature c.args.layer.now c.args.langs.now c.args.members.now c.args.tiles.now.items c.in-Some.properties c.in-Some-id_of.id c.in-Some-text_of.text.now own known all c.in-Some-level_of.score c.in-Some-cap_of.cap scored capped) ∙ is in absurd (cc both)

pub returns-clause-outright : goal.returns-clause-outright
returns-clause-outright c =
    let strings : is_some (own_texts c.in-Some.properties.own) ≡ true = search rules in
    let (own, own_is) = there (own_texts c.in-Some.properties.own) strings in
    let enough : (nat_le 1 (length c.args.tiles.now.items) && nat_le (length c.args.tiles.now.items) 4096) ≡ true = search rules in
    let known : Known c.args.members.now c.args.tiles.now.items c.in-Some.properties c.in-Some-id_of.id c.in-Some-text_of.text.now own = record { properties = search rules; id = search rules; text = search rules; own = own_is; named = search rules; some = enough } in
    let all : list_all (λ t. t.z == c.args.layer.now.zoom) c.args.tiles.now.items ≡ true = search rules in
    let scored : Some c.in-Some-level_of.score ≡ option_map (level c.args.layer.now.scoremax) (score_of (present (option_map shape_of c.in-Some.properties.score))) = sym c.in-Some-level_of.is ∙ c.level_of.ensures ∙ ap (λ scoremax. option_map (level scoremax) (score_of (present (option_map shape_of c.in-Some.properties.score)))) c.scoremax.ensures.value in
    let capped : Some c.in-Some-cap_of.cap ≡ relevance_of (present (option_map shape_of c.in-Some.properties.relev)) = sym c.in-Some-cap_of.is ∙ c.cap_of.ensures.value in
    λ e is. let both = sym (whole_feature c.args.layer.now c.args.langs.now c.args.members.now c.args.tiles.now.items c.in-Some.properties c.in-Some-id_of.id c.in-Some-text_of.text.now own known all c.in-Some-level_of.score c.in-Some-cap_of.cap scored capped) ∙ is in absurd (cc both)

pub made-requires-clause-texts : goal.made-requires-clause-texts
made-requires-clause-texts c =
    let strings : is_some (own_texts c.in-Some.properties.own) ≡ true = search rules in
    let (own, own_is) = there (own_texts c.in-Some.properties.own) strings in
    let made : AreFeaturePhrases c.in_ok-phrases.phrases = subst AreFeaturePhrases (sym (c.in_ok-phrases.ensures own own_is)) (feature_phrases c.tokens.result.now c.args.langs.now c.in-Some-cap_of.cap c.in-Some-text_of.text.now own (search rules) c.in-Some-cap_of.ensures.is) in
    made.texts

pub made-requires-clause-relevances : goal.made-requires-clause-relevances
made-requires-clause-relevances c =
    let strings : is_some (own_texts c.in-Some.properties.own) ≡ true = search rules in
    let (own, own_is) = there (own_texts c.in-Some.properties.own) strings in
    let made : AreFeaturePhrases c.in_ok-phrases.phrases = subst AreFeaturePhrases (sym (c.in_ok-phrases.ensures own own_is)) (feature_phrases c.tokens.result.now c.args.langs.now c.in-Some-cap_of.cap c.in-Some-text_of.text.now own (search rules) c.in-Some-cap_of.ensures.is) in
    made.relevances

pub made-requires-clause-distinct : goal.made-requires-clause-distinct
made-requires-clause-distinct c =
    let strings : is_some (own_texts c.in-Some.properties.own) ≡ true = search rules in
    let (own, own_is) = there (own_texts c.in-Some.properties.own) strings in
    let made : AreFeaturePhrases c.in_ok-phrases.phrases = subst AreFeaturePhrases (sym (c.in_ok-phrases.ensures own own_is)) (feature_phrases c.tokens.result.now c.args.langs.now c.in-Some-cap_of.cap c.in-Some-text_of.text.now own (search rules) c.in-Some-cap_of.ensures.is) in
    made.distinct

pub returns-clause-feature : goal.returns-clause-feature
returns-clause-feature c =
    let strings : is_some (own_texts c.in-Some.properties.own) ≡ true = search rules in
    let (own, own_is) = there (own_texts c.in-Some.properties.own) strings in
    let enough : (nat_le 1 (length c.args.tiles.now.items) && nat_le (length c.args.tiles.now.items) 4096) ≡ true = search rules in
    let known : Known c.args.members.now c.args.tiles.now.items c.in-Some.properties c.in-Some-id_of.id c.in-Some-text_of.text.now own = record { properties = search rules; id = search rules; text = search rules; own = own_is; named = search rules; some = enough } in
    let all : list_all (λ t. t.z == c.args.layer.now.zoom) c.args.tiles.now.items ≡ true = search rules in
    let scored : Some c.in-Some-level_of.score ≡ option_map (level c.args.layer.now.scoremax) (score_of (present (option_map shape_of c.in-Some.properties.score))) = sym c.in-Some-level_of.is ∙ c.level_of.ensures ∙ ap (λ scoremax. option_map (level scoremax) (score_of (present (option_map shape_of c.in-Some.properties.score)))) c.scoremax.ensures.value in
    let capped : Some c.in-Some-cap_of.cap ≡ relevance_of (present (option_map shape_of c.in-Some.properties.relev)) = sym c.in-Some-cap_of.is ∙ c.cap_of.ensures.value in
    let with_phrases : List Phrase → FeatureView = λ ps. record { id = c.in-Some-id_of.id; score = c.in-Some-level_of.score; phrases = ps; tiles = rising c.args.tiles.now.items } in
    let replaced : all_phrases c.args.layer.now.tokens c.args.langs.now c.in-Some-cap_of.cap c.in-Some-text_of.text.now own ≡ c.in_ok-phrases.phrases =
    ap (λ (r : Replacements). all_phrases r c.args.langs.now c.in-Some-cap_of.cap c.in-Some-text_of.text.now own) (sym c.tokens.ensures.value) ∙ sym (c.in_ok-phrases.ensures own own_is) in
    whole_feature c.args.layer.now c.args.langs.now c.args.members.now c.args.tiles.now.items c.in-Some.properties c.in-Some-id_of.id c.in-Some-text_of.text.now own known all c.in-Some-level_of.score c.in-Some-cap_of.cap scored capped ∙ ap Ok (ap with_phrases replaced ∙ sym c.in_ok-made.ensures)
