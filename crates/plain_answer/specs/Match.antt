-- Which runs of a query match a phrase.
use Rattle.std.specs.Prelude.{ℕ, ◌+◌, ◌-◌, Bool, List, ◌&&◌, ◌||◌, ◌==◌, length, map, flat_map, bytes_eq, slice_range}
use Rattle.geo_base.specs.Lists.{numbers_from}
use Rattle.geo_text.specs.Bytes.{begins_with}
use Rattle.geo_text.specs.Tokens.{joined, replaced}
use Rattle.geo_layer.specs.Layer.{LayerView}
use Rattle.geo_query.specs.QueryView.{QueryView}

-- the text of the run of tokens from `from` up to but not `to`
abbrev pub run_text : List (List ℕ) → ℕ → ℕ → List ℕ
run_text tokens from to = joined (slice_range tokens from to)

-- a run of these tokens matches the phrase: the texts are equal; or the run ends the tokens, that is asked for, and the phrase begins with the run's text
abbrev pub matches : List (List ℕ) → Bool → ℕ → ℕ → List ℕ → Bool
matches tokens auto from to phrase =
    bytes_eq phrase (run_text tokens from to) || (auto && (to == length tokens) && begins_with phrase (run_text tokens from to))

-- a run of a query matches the phrase of a layer: it does with that layer's replacements
abbrev pub matches_in : LayerView → QueryView → List ℕ → ℕ × ℕ → Bool
matches_in layer q phrase run = matches (replaced layer.tokens q.tokens) q.auto run.0 run.1 phrase

-- the runs of n tokens from one token on: up to each later place
abbrev pub runs_from : ℕ → ℕ → List (ℕ × ℕ)
runs_from n from = map (λ to. (from, to)) (numbers_from (from + 1) (n - from))

-- all runs of n tokens
abbrev pub runs : ℕ → List (ℕ × ℕ)
runs n = flat_map (runs_from n) (numbers_from 0 n)
