-- The table against the list of a map's entries.
use Rattle.std.proofs.Common.{◌≡◌, ◌∙◌, ◌<◌, ◌==◌, ◌&&◌, ◌||◌, ℕ, true, false, cond, not, nat_lt, List, [], ◌∷◌, map, refl, sym, ap, subst, arith, Some, is_some}
use Rattle.std.specs.Ordering.{nat_cmp, ordering_then, match_ordering, MatchOrdering, is_eq}
use Rattle.std.specs.declared.cmp.Ordering.{Ordering}
use Rattle.std.specs.declared.cmp.Ordering.TheVariants.{Less, Equal, Greater}
use Rattle.std.specs.Cmp.{IsTotalOrder}
use Rattle.std.proofs.lemmas.Cmp.{nat_cmp_total, then_total, on_total, ranked}
use Rattle.std.specs.List.{AllByRecursion}
use Rattle.std.specs.List.Sorted.{IsStrictlySortedBy}
use Rattle.std.specs.Map.{keys_of, lookup}
use Rattle.std.specs.BTreeMap.{insert_entry}
use Rattle.std.specs.BTreeMap as tree
use Rattle.std.proofs.lemmas.Bool.Decides.{nat_tests}
use Rattle.std.proofs.lemmas.List.Elements.{All-from_recursion}
use Rattle.std.proofs.lemmas.List.Kept.{AllPairs-cons}
use Rattle.std.proofs.lemmas.Map.Keys.{sorted_head, sorted_tail}
use Rattle.feature_reader.specs.FeatureView.{FeatureView}
use Rattle.feature_reader.specs.declared.table.Place.{Place}
use Rattle.feature_reader.specs.Table.{Table, IsTable, entry_of, comes_before, without, inserted, with_feature, stands}

-- the order of places
abbrev pub place_cmp : Place → Place → Ordering
place_cmp a b = ordering_then (nat_cmp a.layer b.layer) (nat_cmp a.id b.id)

-- what a map of places to features holds
abbrev pub Entries : Type 0
Entries = List (Place × FeatureView)

-- each feature stands at the place of its id
abbrev pub AtIds : Entries → Type 0
AtIds es = AllByRecursion (λ e. e.0.id ≡ e.1.id) es

pub place_cmp_total : IsTotalOrder place_cmp
place_cmp_total = then_total (on_total (λ k. k.layer) nat_cmp_total) (on_total (λ k. k.id) nat_cmp_total)

-- what the order of two places says of the tests
abbrev Tells : Place → ℕ → ℕ → Ordering → Type 0
Tells k layer id Less = (nat_lt k.layer layer || (k.layer == layer && nat_lt k.id id) ≡ true) × (layer == k.layer && id == k.id ≡ false)
Tells k layer id Equal = (nat_lt k.layer layer || (k.layer == layer && nat_lt k.id id) ≡ false) × (layer == k.layer && id == k.id ≡ true) × (layer ≡ k.layer) × (id ≡ k.id)
Tells k layer id Greater = (nat_lt k.layer layer || (k.layer == layer && nat_lt k.id id) ≡ false) × (layer == k.layer && id == k.id ≡ false)

tells : (k e : Place) → Tells k e.layer e.id (place_cmp k e)
tells k e =
    elim (nat_cmp k.layer e.layer) as (λ o. MatchOrdering o (k.layer < e.layer) (k.layer ≡ e.layer) (e.layer < k.layer) → Tells k e.layer e.id (ordering_then o (nat_cmp k.id e.id))) [
      | Less ↦ λ lt. (grind (arith, nat_tests), grind (arith, nat_tests))
      | Equal ↦ λ same. elim (nat_cmp k.id e.id) as (λ p. MatchOrdering p (k.id < e.id) (k.id ≡ e.id) (e.id < k.id) → Tells k e.layer e.id p) [
        | Less ↦ λ lt. (grind (arith, nat_tests), grind (arith, nat_tests))
        | Equal ↦ λ alike. (grind (arith, nat_tests), grind (arith, nat_tests), sym same, sym alike)
        | Greater ↦ λ gt. (grind (arith, nat_tests), grind (arith, nat_tests))
      ] (ranked k.id e.id (nat_cmp k.id e.id) refl)
      | Greater ↦ λ gt. (grind (arith, nat_tests), grind (arith, nat_tests))
    ] (ranked k.layer e.layer (nat_cmp k.layer e.layer) refl)

-- what stands after a place stands after each place before it
pub later : (k e : Place) (ks : List Place) → place_cmp k e ≡ Less → AllByRecursion (λ y. place_cmp e y ≡ Less) ks → AllByRecursion (λ y. place_cmp k y ≡ Less) ks
later k e [] h all = tt
later k e (y ∷ ks) h all = (place_cmp_total.trans k e y h all.0, later k e ks h all.1)

-- and after each place that is the same
pub later_same : (k e : Place) (ks : List Place) → place_cmp k e ≡ Equal → AllByRecursion (λ y. place_cmp e y ≡ Less) ks → AllByRecursion (λ y. place_cmp k y ≡ Less) ks
later_same k e [] h all = tt
later_same k e (y ∷ ks) h all = (place_cmp_total.congr k e y h ∙ all.0, later_same k e ks h all.1)

-- the tests at an entry whose feature stands at the place of its id
told : (k : Place) (e : Place × FeatureView) → e.0.id ≡ e.1.id → Tells k e.0.layer e.1.id (place_cmp k e.0)
told k e is = subst (λ id. Tells k e.0.layer id (place_cmp k e.0)) is (tells k e.0)

-- the same, where the order is known
pub told_as : (k : Place) (e : Place × FeatureView) (o : Ordering) → e.0.id ≡ e.1.id → place_cmp k e.0 ≡ o → Tells k e.0.layer e.1.id o
told_as k e o is eq = subst (λ p. Tells k e.0.layer e.1.id p) eq (told k e is)

-- nothing is left out where all stand after the place
pub none_left_out : (k : Place) (es : Entries) → AtIds es → AllByRecursion (λ y. place_cmp k y ≡ Less) (keys_of es) → without (map entry_of es) k.layer k.id ≡ map entry_of es
none_left_out k [] ids all = refl
none_left_out k (e ∷ es) ids all = rw (told_as k e Less ids.0 all.0).1 (ap (λ l. entry_of e ∷ l) (none_left_out k es ids.1 all.1))

-- a place by its two numbers
abbrev pub place_at : ℕ → ℕ → Place
place_at layer id = record { layer = layer; id = id }

-- the place of a feature
abbrev pub place_of : ℕ → FeatureView → Place
place_of layer f = place_at layer f.id

-- the feature comes first where all stand after its place
comes_first : (layer : ℕ) (f : FeatureView) (es : Entries) → AtIds es → AllByRecursion (λ y. place_cmp (place_of layer f) y ≡ Less) (keys_of es) → inserted layer f (map entry_of es) ≡ (layer, f) ∷ map entry_of es
comes_first layer f [] ids all = refl
comes_first layer f (e ∷ es) ids all =
    ap (λ b. cond b ((layer, f) ∷ map entry_of (e ∷ es)) (entry_of e ∷ inserted layer f (map entry_of es))) (told_as (place_of layer f) e Less ids.0 all.0).0

-- a map's insertion puts the feature at its place
pub put_is : (layer : ℕ) (f : FeatureView) (es : Entries) → AtIds es → IsStrictlySortedBy place_cmp (keys_of es) → map entry_of (insert_entry place_cmp es (place_of layer f) f) ≡ with_feature (map entry_of es) layer f
put_is layer f [] ids sorted = refl
put_is layer f (e ∷ es) ids sorted =
    elim (place_cmp k e.0) as (λ o. place_cmp k e.0 ≡ o → map entry_of (match_ordering o ((k, f) ∷ e ∷ es) ((e.0, f) ∷ es) (e ∷ insert_entry place_cmp es k f)) ≡ with_feature (map entry_of (e ∷ es)) layer f) [
      | Less ↦ λ is.
          let all : AllByRecursion (λ y. place_cmp k y ≡ Less) (keys_of (e ∷ es)) = (is, later k e.0 (keys_of es) is after) in
          sym (ap (inserted layer f) (none_left_out k (e ∷ es) ids all) ∙ comes_first layer f (e ∷ es) ids all)
      | Equal ↦ λ is.
          let told = told_as k e Equal ids.0 is in
          let all = later_same k e.0 (keys_of es) is after in
          ap (λ l. (l, f) ∷ map entry_of es) told.2
          ∙ sym (ap (inserted layer f) (ap (λ b. cond (not b) (entry_of e ∷ rest) rest) told.1 ∙ none_left_out k es ids.1 all) ∙ comes_first layer f es ids.1 all)
      | Greater ↦ λ is.
          let told = told_as k e Greater ids.0 is in
          ap (λ l. entry_of e ∷ l) (put_is layer f es ids.1 (sorted_tail place_cmp e.0 (keys_of es) sorted))
          ∙ sym (ap (inserted layer f) (ap (λ b. cond (not b) (entry_of e ∷ rest) rest) told.1) ∙ ap (λ b. cond b ((layer, f) ∷ entry_of e ∷ rest) (entry_of e ∷ inserted layer f rest)) told.0)
    ] refl
  where
    k : Place
    k = place_of layer f

    rest : Table
    rest = without (map entry_of es) layer f.id

    after : AllByRecursion (λ y. place_cmp e.0 y ≡ Less) (keys_of es)
    after = sorted_head place_cmp e.0 (keys_of es) sorted

-- a map's look-up tells what stands in the table
pub stands_is : (k : Place) (es : Entries) → AtIds es → stands (map entry_of es) k.layer k.id ≡ is_some (lookup (tree.is_at (place_cmp k)) es)
stands_is k [] ids = refl
stands_is k (e ∷ es) ids =
    elim (place_cmp k e.0) as (λ o. place_cmp k e.0 ≡ o → stands (map entry_of (e ∷ es)) k.layer k.id ≡ is_some (cond (is_eq o) (Some e.1) (lookup (tree.is_at (place_cmp k)) es))) [
      | Less ↦ λ is. ap (λ b. b || stands (map entry_of es) k.layer k.id) (told_as k e Less ids.0 is).1 ∙ stands_is k es ids.1
      | Equal ↦ λ is. ap (λ b. b || stands (map entry_of es) k.layer k.id) (told_as k e Equal ids.0 is).1
      | Greater ↦ λ is. ap (λ b. b || stands (map entry_of es) k.layer k.id) (told_as k e Greater ids.0 is).1 ∙ stands_is k es ids.1
    ] refl

-- after an insertion too each feature stands at the place of its id
pub at_ids_insert : (layer : ℕ) (f : FeatureView) (es : Entries) → AtIds es → AtIds (insert_entry place_cmp es (place_of layer f) f)
at_ids_insert layer f [] ids = (refl, tt)
at_ids_insert layer f (e ∷ es) ids =
    elim (place_cmp (place_of layer f) e.0) as (λ o. place_cmp (place_of layer f) e.0 ≡ o → AtIds (match_ordering o ((place_of layer f, f) ∷ e ∷ es) ((e.0, f) ∷ es) (e ∷ insert_entry place_cmp es (place_of layer f) f))) [
      | Less ↦ λ is. (refl, ids)
      | Equal ↦ λ is. (ids.0 ∙ (told_as (place_of layer f) e Equal ids.0 is).3, ids.1)
      | Greater ↦ λ is. (ids.0, at_ids_insert layer f es ids.1)
    ] refl

-- the table of a map's entries rises
pub is_table : (es : Entries) → AtIds es → IsStrictlySortedBy place_cmp (keys_of es) → IsTable (map entry_of es)
is_table [] ids sorted = λ i j d lt within. absurd (omega (arith, within))
is_table (e ∷ es) ids sorted =
    AllPairs-cons (λ a b. comes_before a.0 a.1.id b ≡ true) (entry_of e) (map entry_of es)
    (All-from_recursion (λ b. comes_before e.0.layer e.1.id b ≡ true) (map entry_of es) (all_after es ids.1 (sorted_head place_cmp e.0 (keys_of es) sorted)))
    (is_table es ids.1 (sorted_tail place_cmp e.0 (keys_of es) sorted))
  where
    all_after : (fs : Entries) → AtIds fs → AllByRecursion (λ y. place_cmp e.0 y ≡ Less) (keys_of fs) → AllByRecursion (λ b. comes_before e.0.layer e.1.id b ≡ true) (map entry_of fs)
    all_after [] fids all = tt
    all_after (g ∷ fs) fids all =
        (subst (λ i. comes_before e.0.layer i (entry_of g) ≡ true) ids.0 (told_as e.0 g Less fids.0 all.0).0, all_after fs fids.1 all.1)
