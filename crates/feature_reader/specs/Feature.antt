-- The feature that a JSON text stands for in a layer, or its first fault.
use Rattle.std.specs.Prelude.{ℕ, ℤ, pos, negsuc, ◌+◌, ◌-◌, ◌*◌, ◌/◌, Bool, List, [], ◌∷◌, ◌++◌, ◌&&◌, ◌||◌, ◌==◌, not, min, nat_eq, drop, codes, bytes_eq, filter, flat_map, map, if◌then◌else◌, Option, Some, None, is_some, option_and_then, option_map, Result, Ok, ok_or}
use Rattle.std.specs.List.{list_all, starts_with}
use Rattle.geo_base.specs.LangCode.{is_code}
use Rattle.geo_text.specs.Numbers.{below}
use Rattle.geo_text.specs.Tokens.{Replacements, joined}
use Rattle.geo_text.specs.Parts.{parts}
use Rattle.geo_layer.specs.Json.{each_of, ◌>>=◌, wanted}
use Rattle.geo_layer.specs.Layer.{LayerView}
use Rattle.feature_json.specs.Shape.{Shape, present, text_of, whole_of, natural_of}
use Rattle.feature_json.specs.Said.{Said, said}
use Rattle.feature_reader.specs.Languages.{bits_of, other_languages}
use Rattle.feature_reader.specs.Tiles.{some_tiles, rising}
use Rattle.feature_reader.specs.FeatureView.{FeatureView}
use Rattle.feature_reader.specs.declared.phrase.Phrase.{Phrase}
use Rattle.feature_reader.specs.declared.feature.FeatureFault.{FeatureFault}
use Rattle.feature_reader.specs.declared.feature.FeatureFault.TheVariants as fault

-- the code of a member `carmen:text_CODE`
abbrev pub text_code : List ℕ → Option (List ℕ)
text_code name = if starts_with nat_eq name (codes "carmen:text_") && is_code (drop 12 name) then Some (drop 12 name) else None

-- the member is a text in a language: its name has a code, and it isn't null
abbrev pub is_own_text : List ℕ × Shape → Bool
is_own_text m = is_some (text_code m.0) && is_some (present (Some m.1))

-- its code, which stands behind the twelve bytes `carmen:text_`, and its text, where it is a string
abbrev pub text_by_code : List ℕ × Shape → Option (List ℕ × List ℕ)
text_by_code m = option_map (λ text. (drop 12 m.0, text)) (text_of m.1)

-- the texts in languages by their codes, in the order of the members, where each is a string
abbrev pub own_texts : List (List ℕ × Shape) → Option (List (List ℕ × List ℕ))
own_texts members = each_of text_by_code (filter is_own_text members)

-- the phrases of a text in a set of languages: one for each of its parts
abbrev pub phrases_of : Replacements → ℕ → List ℕ → ℕ → List Phrase
phrases_of replacements cap text set = map (λ part. record { text = joined part.0; set = record { bits = set }; relev = part.1 }) (parts replacements cap text)

-- the same text in the same languages with the same relevance
abbrev pub same_phrase : Phrase → Phrase → Bool
same_phrase p q = bytes_eq p.text q.text && (p.set.bits == q.set.bits && p.relev == q.relev)

-- each phrase once, at its first place
abbrev pub distinct : List Phrase → List Phrase
distinct [] = []
distinct (p ∷ ps) = p ∷ filter (λ q. not (same_phrase p q)) (distinct ps)

-- the phrases of the text without a language, and then those of the texts by code
abbrev pub all_phrases : Replacements → List (List ℕ) → ℕ → List ℕ → List (List ℕ × List ℕ) → List Phrase
all_phrases replacements langs cap text own =
    distinct (phrases_of replacements cap text (other_languages langs (map (λ t. t.0) own)) ++ flat_map (λ t. phrases_of replacements cap t.1 (bits_of langs t.0)) own)

-- the level of a score: 15 * score / scoremax, rounded up, at most 15; below 0 it is 0
abbrev pub level : ℕ → ℤ → ℕ
level scoremax (pos score) = min 15 ((15 * score + (scoremax - 1)) / scoremax)
level scoremax (negsuc n) = 0

-- the score: 0 where it is absent
abbrev pub score_of : Option Shape → Option ℤ
score_of None = Some (pos 0)
score_of (Some s) = whole_of s

-- the relevance: 40, 60, 80 or 100; 100 where it is absent
abbrev pub relevance_of : Option Shape → Option ℕ
relevance_of None = Some 100
relevance_of (Some s) = option_and_then (λ n. if n == 40 || (n == 60 || (n == 80 || n == 100)) then Some n else None) (natural_of s)

-- the feature of a layer of which this is said, or its first fault: Json, Id, Text, Zxy, Zoom, Score, Relev
abbrev pub feature_in : LayerView → List (List ℕ) → Said → Result FeatureView FeatureFault
feature_in layer langs said =
    ok_or said.properties fault.Json >>= λ p.
    ok_or (option_and_then (below 67108864) (option_and_then natural_of said.id)) fault.Id >>= λ id.
    ok_or (option_and_then text_of p.values.text) fault.Text >>= λ text.
    ok_or (own_texts p.values.own) fault.Text >>= λ own.
    ok_or (option_and_then some_tiles p.tiles) fault.Zxy >>= λ tiles.
    wanted (list_all (λ t. t.z == layer.zoom) tiles) fault.Zoom >>= λ _.
    ok_or (score_of (present p.values.score)) fault.Score >>= λ score.
    ok_or (relevance_of (present p.values.relev)) fault.Relev >>= λ cap.
    Ok (record { id = id; score = level layer.scoremax score; phrases = all_phrases layer.tokens langs cap text own; tiles = rising tiles })

-- the feature of a layer that bytes stand for, or its first fault
abbrev pub feature_of : LayerView → List (List ℕ) → List ℕ → Result FeatureView FeatureFault
feature_of layer langs bytes = ok_or (said bytes) fault.Json >>= λ said. feature_in layer langs said
