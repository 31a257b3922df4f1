-- The links of a query over a head and a table of features.
use Rattle.std.specs.Prelude.{ℕ, ◌-◌, ◌*◌, Bool, true, List, [], length, map, filter, flat_map, slice_get, if◌then◌else◌, Option, Some, None}
use Rattle.geo_base.specs.TileView.{TileView}
use Rattle.geo_base.specs.TileBox.{BoxView, meets}
use Rattle.geo_base.specs.LangSet.{has_bit}
use Rattle.geo_base.specs.declared.link.Link.{Link}
use Rattle.geo_layer.specs.Langs.{bit_of}
use Rattle.geo_layer.specs.Layer.{LayerView}
use Rattle.geo_layer.specs.declared.head.Head.{Head}
use Rattle.geo_query.specs.QueryView.{QueryView}
use Rattle.feature_reader.specs.declared.phrase.Phrase.{Phrase}
use Rattle.feature_reader.specs.FeatureView.{FeatureView}
use Rattle.feature_reader.specs.Table.{Table}
use Rattle.plain_answer.specs.Match.{matches_in, runs}

-- 100 where no language is asked for, or the phrase speaks for the one that is; else 96
abbrev pub factor : List (List ℕ) → Option (List ℕ) → Phrase → ℕ
factor langs None p = 100
factor langs (Some code) p = if has_bit p.set.bits (bit_of langs code) then 100 else 96

-- the tile meets the box, where one is asked for
abbrev pub meets_bounds : Option BoxView → TileView → Bool
meets_bounds None t = true
meets_bounds (Some bounds) t = meets bounds t

-- the link of a feature, a phrase of it, a run that matches the phrase, and a tile: its value is the number of tokens, times the relevance, times the factor
abbrev pub link_of : Head → QueryView → ℕ → FeatureView → Phrase → ℕ × ℕ → TileView → Link
link_of head q layer f p run tile =
    record { layer = layer; from = run.0; to = run.1; id = f.id; tile = tile; value = (run.1 - run.0) * p.relev * factor head.langs q.lang p; score = f.score }

-- the links of a run, where it matches the phrase: one for each of the feature's tiles in the box
abbrev pub run_links : Head → QueryView → LayerView → ℕ → FeatureView → Phrase → ℕ × ℕ → List Link
run_links head q layer number f p run =
    if matches_in layer q p.text run then map (link_of head q number f p run) (filter (meets_bounds q.bounds) f.tiles) else []

-- the links of a phrase
abbrev pub phrase_links : Head → QueryView → LayerView → ℕ → FeatureView → Phrase → List Link
phrase_links head q layer number f p = flat_map (run_links head q layer number f p) (runs (length q.tokens))

-- the links of a feature in a layer, where there is such a layer
abbrev pub feature_links : Head → QueryView → Option LayerView → ℕ → FeatureView → List Link
feature_links head q None number f = []
feature_links head q (Some layer) number f = flat_map (phrase_links head q layer number f) f.phrases

-- all links of a query
abbrev pub links : Head → Table → QueryView → List Link
links head table q = flat_map (λ entry. feature_links head q (slice_get head.layers entry.0) entry.0 entry.1) table
