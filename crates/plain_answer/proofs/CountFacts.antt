-- The grid count of a query is the sum over all features of runs that match, times tiles.
use Rattle.std.proofs.Common.{◌≡◌, ◌∙◌, ℕ, ◌+◌, ◌*◌, ◌==◌, ◌≤◌, Bool, cond, List, [], ◌∷◌, length, map, filter, All, Option, None, Some, refl, ap, arith}
use Rattle.std.specs.Prelude.{sum_by, slice_get}
use Rattle.std.proofs.lemmas.List.Sums.{sum_by-cons}
use Rattle.geo_base.specs.Lists.{numbers_from}
use Rattle.geo_layer.specs.Layer.{LayerView}
use Rattle.geo_layer.specs.declared.head.Head.{Head}
use Rattle.geo_query.specs.QueryView.{QueryView}
use Rattle.feature_reader.specs.declared.phrase.Phrase.{Phrase}
use Rattle.feature_reader.specs.FeatureView.{FeatureView, IsFeature}
use Rattle.feature_reader.specs.Table.{Table, IsTable, features_in, rows_of, rows}
use Rattle.plain_answer.specs.Match.{matches_in, runs}
use Rattle.plain_answer.specs.Count.{Entry, entry_at, feature_entries, layer_entries, run_entries, layer_count, run_count, feature_count, count, product_count}
use Rattle.plain_answer.proofs.Counting.{sums_same, sum_swap, sum_map, sum_filter, sum_passing, sum_of_one, length_all, length_pieces}
use Rattle.plain_answer.proofs.EntryFacts.{layer_differs, run_entries_are}
use Rattle.plain_answer.proofs.LayerTokens.{past_end}

-- ---- one layer

module _ (layer : LayerView) (q : QueryView) (features : List FeatureView) where
  -- the run matches the entry's phrase
  abbrev pub in_run : ℕ × ℕ → Entry → Bool
  in_run run e = matches_in layer q e.phrase.text run

  -- what a run matches of a phrase of a feature: each of its tiles or none
  abbrev pub share : ℕ × ℕ → FeatureView → Phrase → ℕ
  share run f p = cond (matches_in layer q p.text run) (length f.tiles) 0

  of_feature : (run : ℕ × ℕ) (f : FeatureView) → length (filter (in_run run) (feature_entries f)) ≡ sum_by (share run f) f.phrases
  of_feature run f =
      length_pieces (in_run run) (λ p. map (entry_at f p) f.tiles) f.phrases
      ∙ sums_same (λ p. length (filter (in_run run) (map (entry_at f p) f.tiles))) (share run f) f.phrases
      (λ p. length_all (in_run run) (entry_at f p) (matches_in layer q p.text run) f.tiles (λ t. refl))

  pub of_run : (run : ℕ × ℕ) → length (filter (in_run run) (layer_entries features)) ≡ sum_by (λ f. sum_by (share run f) f.phrases) features
  of_run run =
      length_pieces (in_run run) feature_entries features
      ∙ sums_same (λ f. length (filter (in_run run) (feature_entries f))) (λ f. sum_by (share run f) f.phrases) features (of_feature run)

  -- over all runs, what is matched of a feature
  over_runs : (f : FeatureView) → sum_by (λ run. sum_by (share run f) f.phrases) (runs (length q.tokens)) ≡ feature_count q (Some layer) f
  over_runs f =
      sum_swap (λ run p. share run f p) (runs (length q.tokens)) f.phrases
      ∙ sums_same (λ p. sum_by (λ run. share run f p) (runs (length q.tokens))) (λ p. run_count q layer p * length f.tiles) f.phrases
      (λ p. sum_passing (matches_in layer q p.text) (length f.tiles) (runs (length q.tokens)))

  all_runs : sum_by (λ run. length (filter (in_run run) (layer_entries features))) (runs (length q.tokens)) ≡ sum_by (feature_count q (Some layer)) features
  all_runs =
      sums_same (λ run. length (filter (in_run run) (layer_entries features))) (λ run. sum_by (λ f. sum_by (share run f) f.phrases) features) (runs (length q.tokens)) of_run
      ∙ (sum_swap (λ run f. sum_by (share run f) f.phrases) (runs (length q.tokens)) features
      ∙ sums_same (λ f. sum_by (λ run. sum_by (share run f) f.phrases) (runs (length q.tokens))) (feature_count q (Some layer)) features over_runs)

of_layer : (q : QueryView) (table : Table) (k : ℕ) → IsTable table → All (λ e. IsFeature e.1) table → (o : Option LayerView)
    → layer_count q o (features_in table k) ≡ sum_by (feature_count q o) (features_in table k)
of_layer q table k rises fine None = nothing (features_in table k)
  where
    nothing : (fs : List FeatureView) → 0 ≡ sum_by (feature_count q None) fs
    nothing [] = refl
    nothing (f ∷ fs) = let a = sum_by-cons (feature_count q None) f fs in let b = nothing fs in omega (arith, a, b)
of_layer q table k rises fine (Some layer) =
    sums_same (λ run. length (run_entries q layer (features_in table k) run)) (λ run. length (filter (λ e. matches_in layer q e.phrase.text run) (layer_entries (features_in table k)))) (runs (length q.tokens))
    (λ run. ap (length {A = Entry}) (run_entries_are q layer (features_in table k) run (layer_differs table k rises fine)))
    ∙ all_runs layer q (features_in table k)

-- ---- all layers

-- each feature counts in its layer, and nowhere where there is no such layer
by_layers : (layers : ℕ) (g : ℕ → FeatureView → ℕ) (table : Table) → ((k : ℕ) (f : FeatureView) → layers ≤ k → g k f ≡ 0)
    → sum_by (λ k. sum_by (g k) (features_in table k)) (numbers_from 0 layers) ≡ sum_by (λ e. g e.0 e.1) table
by_layers layers g table past =
    sums_same (λ k. sum_by (g k) (features_in table k)) (λ k. sum_by (λ e. cond (e.0 == k) (g k e.1) 0) table) (numbers_from 0 layers)
    (λ k. sum_map (g k) (λ (e : ℕ × FeatureView). e.1) (filter (λ e. e.0 == k) table) ∙ sum_filter (λ (e : ℕ × FeatureView). g k e.1) (λ e. e.0 == k) table)
    ∙ (sum_swap (λ k (e : ℕ × FeatureView). cond (e.0 == k) (g k e.1) 0) (numbers_from 0 layers) table
    ∙ sums_same (λ (e : ℕ × FeatureView). sum_by (λ k. cond (e.0 == k) (g k e.1) 0) (numbers_from 0 layers)) (λ e. g e.0 e.1) table
    (λ e. sum_of_one (λ k. g k e.1) e.0 0 layers (omega arith) (λ beyond. past e.0 e.1 (omega (arith, beyond)))))

-- the grid count is the sum over the features
pub count_is_product : (head : Head) (table : Table) (q : QueryView) → IsTable table → All (λ e. IsFeature e.1) table → count head table q ≡ product_count head table q
count_is_product head table q rises fine =
    sums_same (λ k. layer_count q (slice_get head.layers k) (features_in table k)) (λ k. sum_by (feature_count q (slice_get head.layers k)) (features_in table k)) (numbers_from 0 (length head.layers))
    (λ k. of_layer q table k rises fine (slice_get head.layers k))
    ∙ by_layers (length head.layers) (λ k. feature_count q (slice_get head.layers k)) table
    (λ k f beyond. ap (λ o. feature_count q o f) (past_end head.layers k beyond))

-- ---- one more feature counted

pub more_counted : (head : Head) (q : QueryView) (k : ℕ) (f : FeatureView) (rest table : Table) (count n : ℕ) → count + product_count head ((k, f) ∷ rest) q ≡ product_count head table q → n ≡ feature_count q (slice_get head.layers k) f
    → (count + n) + product_count head rest q ≡ product_count head table q
more_counted head q k f rest table count n so_far here =
    let cons = sum_by-cons (λ (e : ℕ × FeatureView). feature_count q (slice_get head.layers e.0) e.1) (k, f) rest in
    omega (arith, so_far, here, cons)

pub more_bounded : (k : ℕ) (f : FeatureView) (rest table : Table) (count n : ℕ) → count + 400 * rows ((k, f) ∷ rest) ≤ 400 * rows table → n ≤ 400 * rows_of f → (count + n) + 400 * rows rest ≤ 400 * rows table
more_bounded k f rest table count n so_far here =
    let cons = sum_by-cons (λ (e : ℕ × FeatureView). rows_of e.1) (k, f) rest in
    omega (arith, so_far, here, cons)
