-- The links of a query over a head and a table agree.
use Rattle.std.proofs.Common.{◌≡◌, ◌∙◌, ◌==◌, ◌&&◌, ◌||◌, ◌<◌, nat_lt, arith, ℕ, Bool, true, false, cond, List, [], ◌∷◌, length, get_or, map, filter, All, Option, None, Some, refl, sym, ap, subst, ⊎_elim}
use Rattle.std.proofs.lemmas.Bool.Decides.{nat_tests}
use Rattle.std.specs.Prelude.{AllPairs, Contains, IfSome, IsSome, slice_get}
use Rattle.std.proofs.lemmas.List.Elements.{All-contains, Contains-get_or}
use Rattle.std.proofs.lemmas.Option.{slice_get_within}
use Rattle.geo_base.specs.TileView.{TileView}
use Rattle.geo_base.specs.declared.link.Link.{Link}
use Rattle.geo_base.specs.Context.{Agree}
use Rattle.geo_base.proofs.Members.{member_cases, no_member, member_of_map, member_of_filter, member_of_flat_map, pairs_head, pairs_tail}
use Rattle.geo_layer.specs.Layer.{LayerView}
use Rattle.geo_layer.specs.declared.head.Head.{Head}
use Rattle.geo_query.specs.QueryView.{QueryView}
use Rattle.feature_reader.specs.declared.phrase.Phrase.{Phrase}
use Rattle.feature_reader.specs.FeatureView.{FeatureView}
use Rattle.feature_reader.specs.Table.{Table, IsTable, comes_before, IsOfHead}
use Rattle.plain_answer.specs.Match.{matches_in, runs}
use Rattle.plain_answer.specs.Links.{meets_bounds, link_of, run_links, phrase_links, feature_links, links}

-- what a link of a table is: one of an entry's feature, at one of its tiles, in a layer of the head
pub record IsLinkIn (head : Head) (table : Table) (l : Link) : Type 0 where
  pub entry : ℕ × FeatureView
  pub layer : LayerView
  pub tile : TileView
  pub among : Contains table entry
  pub there : slice_get head.layers entry.0 ≡ Some layer
  pub lies : Contains entry.1.tiles tile
  pub number : l.layer ≡ entry.0
  pub id : l.id ≡ entry.1.id
  pub score : l.score ≡ entry.1.score
  pub at : l.tile ≡ tile

-- a link of a run is at one of the feature's tiles
of_run : (head : Head) (q : QueryView) (layer : LayerView) (number : ℕ) (f : FeatureView) (p : Phrase) (run : ℕ × ℕ) (l : Link) → Contains (run_links head q layer number f p run) l → (t : TileView) × Contains f.tiles t × (link_of head q number f p run t ≡ l)
of_run head q layer number f p run l h = by (matches_in layer q p.text run) refl h
  where
    here : List Link
    here = map (link_of head q number f p run) (filter (meets_bounds q.bounds) f.tiles)

    by : (b : Bool) → matches_in layer q p.text run ≡ b → Contains (cond b here []) l → (t : TileView) × Contains f.tiles t × (link_of head q number f p run t ≡ l)
    by true is_in h =
        let (t, among, is) = member_of_map (link_of head q number f p run) (filter (meets_bounds q.bounds) f.tiles) l h in
        (t, (member_of_filter (meets_bounds q.bounds) f.tiles t among).0, is)
    by false is_out h = absurd (no_member l h)

-- a link of a table is one of an entry's feature
pub link_in : (head : Head) (table : Table) (q : QueryView) (l : Link) → Contains (links head table q) l → IsLinkIn head table l
link_in head table q l h =
    let (entry, among, in_entry) = member_of_flat_map (λ entry. feature_links head q (slice_get head.layers entry.0) entry.0 entry.1) table l h in
    by entry among (slice_get head.layers entry.0) refl in_entry
  where
    by : (entry : ℕ × FeatureView) → Contains table entry → (o : Option LayerView) → slice_get head.layers entry.0 ≡ o → Contains (feature_links head q o entry.0 entry.1) l → IsLinkIn head table l
    by entry among None is h = absurd (no_member l h)
    by entry among (Some layer) is h =
        let (p, in_phrases, of_phrase) = member_of_flat_map (phrase_links head q layer entry.0 entry.1) entry.1.phrases l h in
        let (run, in_runs, of_this) = member_of_flat_map (run_links head q layer entry.0 entry.1 p) (runs (length q.tokens)) l of_phrase in
        let (t, lies, same) = of_run head q layer entry.0 entry.1 p run l of_this in
        record {
          entry = entry;
          layer = layer;
          tile = t;
          among = among;
          there = is;
          lies = lies;
          number = ap (λ (x : Link). x.layer) (sym same);
          id = ap (λ (x : Link). x.id) (sym same);
          score = ap (λ (x : Link). x.score) (sym same);
          at = ap (λ (x : Link). x.tile) (sym same);
        }

-- the layer of each link is one of the head's
pub in_layers : (head : Head) (table : Table) (q : QueryView) → All (λ l. l.layer < length head.layers) (links head table q)
in_layers head table q = λ k d within.
    let x = link_in head table q (get_or (links head table q) k d) (Contains-get_or (links head table q) k d within) in
    subst (λ n. n < length head.layers) (sym x.number) (slice_get_within head.layers x.entry.0 x.layer x.there)

pub not_before_its_like : (l m i j : ℕ) → l ≡ m → i ≡ j → (nat_lt l m || (l == m && nat_lt i j)) ≡ true → ⊥
not_before_its_like l m i j layer id before = grind (arith, nat_tests)

no_like_after : (x y : ℕ × FeatureView) (xs : Table) → AllPairs (λ a b. comes_before a.0 a.1.id b ≡ true) (x ∷ xs) → Contains xs y → x.0 ≡ y.0 → x.1.id ≡ y.1.id → ⊥
no_like_after x y xs rises there layer id =
    not_before_its_like x.0 y.0 x.1.id y.1.id layer id
    (All-contains (λ b. comes_before x.0 x.1.id b ≡ true) xs y (pairs_head (λ a b. comes_before a.0 a.1.id b ≡ true) x xs rises) there)

-- a table has each feature once
same_entry : (table : Table) → IsTable table → (d e : ℕ × FeatureView) → Contains table d → Contains table e → d.0 ≡ e.0 → d.1.id ≡ e.1.id → d ≡ e
same_entry [] rises d e in_d in_e layer id = absurd (no_member d in_d)
same_entry (x ∷ xs) rises d e in_d in_e layer id =
    ⊎_elim
    (λ (here : x ≡ d). ⊎_elim
    (λ (too : x ≡ e). sym here ∙ too)
    (λ later. absurd (no_like_after x e xs rises later (ap (λ (z : ℕ × FeatureView). z.0) here ∙ layer) (ap (λ (z : ℕ × FeatureView). z.1.id) here ∙ id)))
    (member_cases x e xs in_e))
    (λ later. ⊎_elim
    (λ (here : x ≡ e). absurd (no_like_after x d xs rises later (ap (λ (z : ℕ × FeatureView). z.0) here ∙ sym layer) (ap (λ (z : ℕ × FeatureView). z.1.id) here ∙ sym id)))
    (λ too. same_entry xs (pairs_tail (λ a b. comes_before a.0 a.1.id b ≡ true) x xs rises) d e later too layer id)
    (member_cases x e xs in_e))
    (member_cases x d xs in_d)

-- the links agree on the zoom of each layer and the score of each feature
pub agree : (head : Head) (table : Table) (q : QueryView) → IsTable table → IsOfHead head table → Agree (links head table q)
agree head table q rises of_head =
    record {
      zooms = λ a b in_a in_b layer.
          let x = link_in head table q a in_a in
          let y = link_in head table q b in_b in
          let numbers : x.entry.0 ≡ y.entry.0 = sym x.number ∙ layer ∙ y.number in
          let layers : Some x.layer ≡ Some y.layer = sym x.there ∙ ap (slice_get head.layers) numbers ∙ y.there in
          let one : x.layer ≡ y.layer = cc layers in
          zoom a x ∙ ap (λ (v : LayerView). v.zoom) one ∙ sym (zoom b y);
      scores = λ a b in_a in_b layer id.
          let x = link_in head table q a in_a in
          let y = link_in head table q b in_b in
          let one = same_entry table rises x.entry y.entry x.among y.among (sym x.number ∙ layer ∙ y.number) (sym x.id ∙ id ∙ y.id) in
          x.score ∙ ap (λ (z : ℕ × FeatureView). z.1.score) one ∙ sym y.score;
    }
  where
    zoom : (l : Link) → (x : IsLinkIn head table l) → l.tile.z ≡ x.layer.zoom
    zoom l x =
        let of_entry = (All-contains (λ entry. IsSome (slice_get head.layers entry.0) × IfSome (slice_get head.layers entry.0) (λ layer. All (λ t. t.z ≡ layer.zoom) entry.1.tiles)) table x.entry of_head x.among).1 in
        let tiles : All (λ t. t.z ≡ x.layer.zoom) x.entry.1.tiles = subst (λ o. IfSome o (λ layer. All (λ t. t.z ≡ layer.zoom) x.entry.1.tiles)) x.there of_entry in
        ap (λ (t : TileView). t.z) x.at ∙ All-contains (λ t. t.z ≡ x.layer.zoom) x.entry.1.tiles x.tile tiles x.lies
