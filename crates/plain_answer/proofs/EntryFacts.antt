-- The grid entries of a layer: no two are the same.
use Rattle.std.proofs.Common.{◌≡◌, ◌≢◌, ◌∙◌, ℕ, ◌==◌, ◌<◌, Bool, true, List, length, map, filter, get_or, All, refl, sym, ap, ap₂, subst, arith, Less, Equal}
use Rattle.std.specs.Prelude.{AllPairs, Contains}
use Rattle.std.specs.Ordering.{ordering_then}
use Rattle.std.specs.Cmp.{nat_cmp_is}
use Rattle.std.proofs.lemmas.Bool.Decides.{nat_tests}
use Rattle.std.proofs.lemmas.List.Elements.{All-map, All-weaker, All-contains, Contains-get_or}
use Rattle.std.proofs.lemmas.List.Kept.{AllPairs-filter}
use Rattle.geo_base.specs.TileView.{TileView}
use Rattle.geo_base.proofs.Members.{member_of_map, member_in_map, member_of_filter, member_in_filter, all_from_members}
use Rattle.geo_layer.specs.Layer.{LayerView}
use Rattle.geo_query.specs.QueryView.{QueryView}
use Rattle.feature_reader.specs.declared.phrase.Phrase.{Phrase}
use Rattle.feature_reader.specs.FeatureView.{FeatureView, IsFeature, tile_cmp}
use Rattle.feature_reader.specs.Table.{Table, IsTable, comes_before, features_in}
use Rattle.plain_answer.specs.Match.{matches_in}
use Rattle.plain_answer.specs.Count.{Entry, entry_at, feature_entries, layer_entries, same_entry, run_entries}
use Rattle.plain_answer.proofs.Agreeing.{not_before_its_like}
use Rattle.plain_answer.proofs.Differing.{Differ, all, all_flat_map, pairs_map, differ_map, differ_flat_map}
use Rattle.plain_answer.proofs.OnceFacts.{once_is, same_is}

-- ---- the entries of a feature

-- two tiles of which one comes first
pub less_differs : (t u : TileView) → tile_cmp t u ≡ Less → t.x ≡ u.x → t.y ≡ u.y → ⊥
less_differs t u less column row =
    let same : tile_cmp t u ≡ Equal = ap₂ ordering_then (sym (nat_cmp_is t.x u.x Equal column)) (sym (nat_cmp_is t.y u.y Equal row)) in
    let bad : Less ≡ Equal = sym less ∙ same in
    absurd (cc bad)

pub phrase_differs : (f : FeatureView) (p : Phrase) → IsFeature f → Differ (map (entry_at f p) f.tiles)
phrase_differs f p is =
    differ_map (entry_at f p) f.tiles
    (λ i j d less within same. less_differs (get_or f.tiles i d) (get_or f.tiles j d) (is.rising i j d less within) (ap (λ (e : Entry). e.x) same) (ap (λ (e : Entry). e.y) same))

-- each entry of a phrase has what the phrase and its feature say
pub all_of_phrase : (P : Entry → Type 0) (f : FeatureView) (p : Phrase) → ((t : TileView) → P (entry_at f p t)) → All P (map (entry_at f p) f.tiles)
all_of_phrase P f p each = All-map P (entry_at f p) f.tiles (all (λ t. P (entry_at f p t)) f.tiles each)

pub feature_differs : (f : FeatureView) → IsFeature f → Differ (feature_entries f)
feature_differs f is =
    differ_flat_map (λ p. p) (λ (e : Entry). e.phrase) (λ p. map (entry_at f p) f.tiles)
    (λ p. all_of_phrase (λ e. e.phrase ≡ p) f p (λ t. refl))
    f.phrases is.distinct
    (all (λ p. Differ (map (entry_at f p) f.tiles)) f.phrases (λ p. phrase_differs f p is))

-- ---- the entries of features of which no two have one id

pub feature_marked : (f : FeatureView) → All (λ e. e.id ≡ f.id) (feature_entries f)
feature_marked f =
    all_flat_map (λ (e : Entry). e.id ≡ f.id) (λ (p : Phrase). map (entry_at f p) f.tiles) f.phrases
    (λ p. all_of_phrase (λ (e : Entry). e.id ≡ f.id) f p (λ t. refl))

pub entries_differ : (features : List FeatureView) → AllPairs (λ f g. f.id ≢ g.id) features → All IsFeature features → Differ (layer_entries features)
entries_differ features ids fine =
    differ_flat_map (λ (f : FeatureView). f.id) (λ (e : Entry). e.id) feature_entries feature_marked features ids
    (All-weaker IsFeature (λ f. Differ (feature_entries f)) feature_differs features fine)

-- ---- the features of a layer of a table

same_number : (m n : ℕ) → (m == n) ≡ true → m ≡ n
same_number m n e = grind (arith, nat_tests)

number_ties : (m n : ℕ) → m ≡ n → (m == n) ≡ true
number_ties m n e = grind (arith, nat_tests)

-- they are those of the table's entries
pub feature_in : (table : Table) (k : ℕ) (f : FeatureView) → Contains (features_in table k) f → Contains table (k, f)
feature_in table k f c =
    let (entry, kept, is) = member_of_map (λ (e : ℕ × FeatureView). e.1) (filter (λ e. e.0 == k) table) f c in
    let (there, here) = member_of_filter (λ (e : ℕ × FeatureView). e.0 == k) table entry kept in
    let number : entry.0 ≡ k = same_number entry.0 k here in
    let whole : entry ≡ (k, f) = ap₂ (λ (n : ℕ) (g : FeatureView). (n, g)) number is in
    subst (Contains table) whole there

pub in_features : (table : Table) (entry : ℕ × FeatureView) → Contains table entry → Contains (features_in table entry.0) entry.1
in_features table entry there =
    member_in_map (λ (e : ℕ × FeatureView). e.1) (filter (λ e. e.0 == entry.0) table) entry
    (member_in_filter (λ (e : ℕ × FeatureView). e.0 == entry.0) table entry there (number_ties entry.0 entry.0 refl))

pub ids_differ : (table : Table) (k : ℕ) → IsTable table → AllPairs (λ f g. f.id ≢ g.id) (features_in table k)
ids_differ table k rises =
    pairs_map (λ f g. f.id ≢ g.id) (λ (e : ℕ × FeatureView). e.1) here
    (λ i j d less within same.
    let before : i < length here = omega (arith, less, within) in
    let first = same_number (get_or here i d).0 k (member_of_filter at_k table (get_or here i d) (Contains-get_or here i d before)).1 in
    let second = same_number (get_or here j d).0 k (member_of_filter at_k table (get_or here j d) (Contains-get_or here j d within)).1 in
    not_before_its_like (get_or here i d).0 (get_or here j d).0 (get_or here i d).1.id (get_or here j d).1.id (first ∙ sym second)
    same
    (AllPairs-filter (λ a b. comes_before a.0 a.1.id b ≡ true) at_k table rises i j d less within))
  where
    at_k : ℕ × FeatureView → Bool
    at_k e = e.0 == k

    here : Table
    here = filter at_k table

pub features_fine : (table : Table) (k : ℕ) → All (λ e. IsFeature e.1) table → All IsFeature (features_in table k)
features_fine table k fine = all_from_members IsFeature (features_in table k) (λ f c. All-contains (λ e. IsFeature e.1) table (k, f) fine (feature_in table k f c))

-- the entries of a layer of a table differ
pub layer_differs : (table : Table) (k : ℕ) → IsTable table → All (λ e. IsFeature e.1) table → Differ (layer_entries (features_in table k))
layer_differs table k rises fine = entries_differ (features_in table k) (ids_differ table k rises) (features_fine table k fine)

-- so each that a run matches stands once
pub run_entries_are : (q : QueryView) (layer : LayerView) (features : List FeatureView) (run : ℕ × ℕ) → Differ (layer_entries features)
    → run_entries q layer features run ≡ filter (λ e. matches_in layer q e.phrase.text run) (layer_entries features)
run_entries_are q layer features run apart =
    once_is same_entry (filter (λ e. matches_in layer q e.phrase.text run) (layer_entries features))
    (AllPairs-filter (λ a b. a ≢ b) (λ e. matches_in layer q e.phrase.text run) (layer_entries features) apart)
    same_is
