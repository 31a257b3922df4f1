-- The links of a query rise by layer.
use Rattle.std.proofs.Common.{◌≡◌, ◌==◌, ◌&&◌, ◌||◌, ◌≤◌, nat_lt, arith, ℕ, Bool, true, false, cond, List, [], ◌∷◌, ◌++◌, length, map, filter, All, Option, None, Some, refl, sym, subst}
use Rattle.std.proofs.lemmas.Bool.Decides.{nat_tests}
use Rattle.std.specs.Prelude.{AllPairs, flat_map, slice_get}
use Rattle.std.proofs.lemmas.List.Elements.{All-head, All-tail, All-append, All-map, All-weaker}
use Rattle.std.proofs.lemmas.List.Kept.{AllPairs-cons}
use Rattle.geo_base.specs.declared.link.Link.{Link}
use Rattle.geo_base.proofs.Members.{pairs_head, pairs_tail}
use Rattle.geo_layer.specs.Layer.{LayerView}
use Rattle.geo_layer.specs.declared.head.Head.{Head}
use Rattle.geo_query.specs.QueryView.{QueryView}
use Rattle.feature_reader.specs.declared.phrase.Phrase.{Phrase}
use Rattle.feature_reader.specs.FeatureView.{FeatureView}
use Rattle.feature_reader.specs.Table.{Table, IsTable}
use Rattle.plain_answer.specs.Match.{matches_in, runs}
use Rattle.plain_answer.specs.Links.{meets_bounds, link_of, run_links, phrase_links, feature_links, links}
use Rattle.plain_answer.proofs.Differing.{all_flat_map}

-- things that are read as one number, and then things that rise and are read as no less, rise
pub one_before : {Y : Type 0} (read : Y → ℕ) (k : ℕ) (ys zs : List Y) → All (λ y. read y ≡ k) ys → All (λ y. k ≤ read y) zs → AllPairs (λ a b. read a ≤ read b) zs → AllPairs (λ a b. read a ≤ read b) (ys ++ zs)
one_before read k [] zs same least rising = rising
one_before read k (y ∷ ys) zs same least rising =
    let later = All-tail (λ z. read z ≡ k) y ys same in
    let all_least : All (λ z. k ≤ read z) (ys ++ zs) =
    All-append (λ z. k ≤ read z) ys zs (All-weaker (λ z. read z ≡ k) (λ z. k ≤ read z) (λ z is. omega (arith, is)) ys later) least in
    AllPairs-cons (λ a b. read a ≤ read b) y (ys ++ zs)
    (subst (λ n. All (λ z. n ≤ read z) (ys ++ zs)) (sym (All-head (λ z. read z ≡ k) y ys same)) all_least)
    (one_before read k ys zs later least rising)

-- pieces that are marked, each by what it is made of, rise where the marks do
module _ {X Y : Type 0} (mark : X → ℕ) (read : Y → ℕ) (f : X → List Y) (marked : (x : X) → All (λ y. read y ≡ mark x) (f x)) where
  at_least : (k : ℕ) (xs : List X) → All (λ x. k ≤ mark x) xs → All (λ y. k ≤ read y) (flat_map f xs)
  at_least k [] least = λ n d within. absurd (omega (arith, within))
  at_least k (x ∷ xs) least =
      All-append (λ y. k ≤ read y) (f x) (flat_map f xs)
      (All-weaker (λ y. read y ≡ mark x) (λ y. k ≤ read y) (λ y is. subst (λ n. k ≤ n) (sym is) (All-head (λ z. k ≤ mark z) x xs least)) (f x) (marked x))
      (at_least k xs (All-tail (λ z. k ≤ mark z) x xs least))

  rise_flat_map : (xs : List X) → AllPairs (λ a b. mark a ≤ mark b) xs → AllPairs (λ a b. read a ≤ read b) (flat_map f xs)
  rise_flat_map [] rising = λ i j d less within. absurd (omega (arith, within))
  rise_flat_map (x ∷ xs) rising =
      one_before read (mark x) (f x) (flat_map f xs) (marked x)
      (at_least (mark x) xs (pairs_head (λ a b. mark a ≤ mark b) x xs rising))
      (rise_flat_map xs (pairs_tail (λ a b. mark a ≤ mark b) x xs rising))

-- the links of a feature are in its layer
module _ (head : Head) (q : QueryView) (number : ℕ) (f : FeatureView) where
  of_run : (layer : LayerView) (p : Phrase) (run : ℕ × ℕ) → All (λ l. l.layer ≡ number) (run_links head q layer number f p run)
  of_run layer p run = by (matches_in layer q p.text run)
    where
      by : (b : Bool) → All (λ l. l.layer ≡ number) (cond b (map (link_of head q number f p run) (filter (meets_bounds q.bounds) f.tiles)) [])
      by true = All-map (λ l. l.layer ≡ number) (link_of head q number f p run) (filter (meets_bounds q.bounds) f.tiles) (λ k d within. refl)
      by false = λ k d within. absurd (omega (arith, within))

  of_feature : (o : Option LayerView) → All (λ l. l.layer ≡ number) (feature_links head q o number f)
  of_feature None = λ k d within. absurd (omega (arith, within))
  of_feature (Some layer) =
      all_flat_map (λ l. l.layer ≡ number) (phrase_links head q layer number f) f.phrases
      (λ p. all_flat_map (λ l. l.layer ≡ number) (run_links head q layer number f p) (runs (length q.tokens)) (of_run layer p))

before_rises : (l m i j : ℕ) → (nat_lt l m || (l == m && nat_lt i j)) ≡ true → l ≤ m
before_rises l m i j before = grind (arith, nat_tests)

-- the links of a table rise by layer
pub links_rise : (head : Head) (table : Table) (q : QueryView) → IsTable table → AllPairs (λ a b. a.layer ≤ b.layer) (links head table q)
links_rise head table q rises =
    rise_flat_map (λ (e : ℕ × FeatureView). e.0) (λ (l : Link). l.layer) (λ (e : ℕ × FeatureView). feature_links head q (slice_get head.layers e.0) e.0 e.1)
    (λ e. of_feature head q e.0 e.1 (slice_get head.layers e.0)) table
    (λ i j d less within. before_rises _ _ _ _ (rises i j d less within))
