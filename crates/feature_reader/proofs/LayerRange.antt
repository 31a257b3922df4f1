-- The features of a layer are those at its places, and their rows are some of the table's.
use Rattle.std.proofs.Common.{◌≡◌, ◌∙◌, ◌+◌, ◌≤◌, ◌==◌, ℕ, Bool, true, false, cond, List, [], ◌∷◌, map, filter, refl, ap, arith}
use Rattle.std.specs.List.{sum_by}
use Rattle.std.specs.Ordering.{nat_cmp, MatchOrdering}
use Rattle.std.specs.declared.cmp.Ordering.TheVariants.{Less, Equal, Greater}
use Rattle.std.specs.declared.ops.Bound.TheVariants.{Included, Excluded}
use Rattle.std.specs.BTreeMap.Range.{range_contains}
use Rattle.std.proofs.lemmas.Bool.Decides.{nat_tests}
use Rattle.std.proofs.lemmas.Cmp.{ranked}
use Rattle.std.proofs.lemmas.List.Sums.{sum_by-cons}
use Rattle.feature_reader.specs.FeatureView.{FeatureView}
use Rattle.feature_reader.specs.declared.table.Place.{Place}
use Rattle.feature_reader.specs.Table.{Table, entry_of, features_in, rows_of, rows}
use Rattle.feature_reader.proofs.Tables.{Entries, place_cmp}

-- a place is of a layer where it lies from the layer's first on and before the next one's
abbrev pub in_range : ℕ → Place → Bool
in_range layer k = range_contains place_cmp (Included (record { layer = layer; id = 0 })) (Excluded (record { layer = layer + 1; id = 0 })) k

pub in_range_is : (layer : ℕ) (k : Place) → in_range layer k ≡ (k.layer == layer)
in_range_is layer k = grind (arith, nat_tests)

pub range_is : (layer : ℕ) (es : Entries) → map (λ e. e.1) (filter (λ e. in_range layer e.0) es) ≡ features_in (map entry_of es) layer
range_is layer [] = refl
range_is layer (e ∷ es) =
    ap (λ b. map (λ d. d.1) (cond b (e ∷ filter (λ d. in_range layer d.0) es) (filter (λ d. in_range layer d.0) es))) (in_range_is layer e.0)
    ∙ by (e.0.layer == layer) (range_is layer es)
  where
    by : (b : Bool) → map (λ d. d.1) (filter (λ d. in_range layer d.0) es) ≡ features_in (map entry_of es) layer
        → map (λ d. d.1) (cond b (e ∷ filter (λ d. in_range layer d.0) es) (filter (λ d. in_range layer d.0) es)) ≡ map (λ d. d.1) (cond b (entry_of e ∷ filter (λ d. d.0 == layer) (map entry_of es)) (filter (λ d. d.0 == layer) (map entry_of es)))
    by true rest = ap (λ l. e.1 ∷ l) rest
    by false rest = rest

pub some_rows : (layer : ℕ) (t : Table) → sum_by rows_of (features_in t layer) ≤ rows t
some_rows layer [] = omega arith
some_rows layer (e ∷ t) = by (e.0 == layer) (some_rows layer t)
  where
    by : (b : Bool) → sum_by rows_of (features_in t layer) ≤ rows t → sum_by rows_of (map (λ d. d.1) (cond b (e ∷ filter (λ d. d.0 == layer) t) (filter (λ d. d.0 == layer) t))) ≤ rows (e ∷ t)
    by true less = omega (arith, sum_by-cons rows_of e.1 (features_in t layer), sum_by-cons (λ d. rows_of d.1) e t, less)
    by false less = omega (arith, sum_by-cons (λ d. rows_of d.1) e t, less)
