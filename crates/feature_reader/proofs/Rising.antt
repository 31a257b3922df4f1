-- Tiles of one zoom in their order, each once.
use Rattle.std.proofs.Common.{is_lt, ◌≡◌, ◌∙◌, ◌+◌, ◌<◌, ◌≤◌, ℕ, Bool, true, ◌&&◌, ◌⊎◌, inl, inr, ⊎_elim, All, List, [], ◌∷◌, length, get_or, refl, sym, ap, subst, arith}
use Rattle.std.specs.Prelude.{AllPairs, Contains}
use Rattle.std.specs.List.{AllByRecursion, dedup, list_all}
use Rattle.std.specs.List.Sorted.{IsStrictlySortedBy, IsSorted, IsPermutation}
use Rattle.std.specs.Bool.{◌==◌}
use Rattle.std.specs.Ordering.{MatchOrdering, nat_cmp, ordering_then, match_ordering, ordering_reverse, eq_by_cmp}
use Rattle.std.specs.Cmp.{IsTotalOrder, IsEquivalence, nat_cmp_is}
use Rattle.std.specs.declared.cmp.Ordering.{Ordering}
use Rattle.std.specs.declared.cmp.Ordering.TheVariants.{Less, Equal, Greater}
use Rattle.std.proofs.lemmas.Cmp.{then_total, on_total, nat_cmp_total, ranked, and_equiv, on_equiv, nat_eq_equiv}
use Rattle.std.proofs.lemmas.List.Elements.{All-cons, All-head, All-tail}
use Rattle.std.proofs.lemmas.List.Kept.{Contains-dedup, Contains-from_dedup, IsStrictlySortedBy-dedup}
use Rattle.std.proofs.lemmas.List.Sorted.{Contains-permutation, IsPermutation-sym}
use Rattle.std.proofs.lemmas.Bool.{and_parts}
use Rattle.std.proofs.lemmas.Bool.Decides.{nat_tests}
use Rattle.geo_base.proofs.Members.{member_here, member_there, member_cases, no_member}
use Rattle.geo_base.proofs.RisingFacts.{same_list, pairs_rise}
use Rattle.geo_base.specs.TileView.{TileView}
use Rattle.geo_text.proofs.Lists.{get_or_again}
use Rattle.feature_reader.specs.FeatureView.{tile_cmp}
use Rattle.feature_reader.specs.Tiles.{with_tile, rising}

-- ---- what holds of all

module _ {X : Type 0} where
  all_at : (P : X → Type 0) (xs : List X) (x : X) → AllByRecursion P xs → Contains xs x → P x
  all_at P [] x h c = absurd (no_member x c)
  all_at P (y ∷ xs) x h c = ⊎_elim (λ e. subst P e h.0) (λ t. all_at P xs x h.1 t) (member_cases y x xs c)

  all_of : (P : X → Type 0) (xs : List X) → ((x : X) → Contains xs x → P x) → AllByRecursion P xs
  all_of P [] h = tt
  all_of P (y ∷ xs) h = (h y (member_here y xs), all_of P xs (λ x c. h x (member_there y x xs c)))

-- ---- the order of tiles

abbrev column : TileView → ℕ
column t = t.x

abbrev row : TileView → ℕ
row t = t.y

abbrev zoom : TileView → ℕ
zoom t = t.z

pub tile_cmp_total : IsTotalOrder tile_cmp
tile_cmp_total = then_total (on_total column nat_cmp_total) (on_total row nat_cmp_total)

-- the order of tiles of all zooms
abbrev pub full_cmp : TileView → TileView → Ordering
full_cmp t u = ordering_then (nat_cmp t.z u.z) (ordering_then (nat_cmp t.x u.x) (nat_cmp t.y u.y))

pub full_cmp_total : IsTotalOrder full_cmp
full_cmp_total = then_total (on_total zoom nat_cmp_total) tile_cmp_total

nat_equal : (m n : ℕ) → nat_cmp m n ≡ Equal → m ≡ n
nat_equal m n e = subst (λ o. MatchOrdering o (m < n) (m ≡ n) (n < m)) e (ranked m n (nat_cmp m n) refl)

then_equal : (o p : Ordering) → ordering_then o p ≡ Equal → (o ≡ Equal) × (p ≡ Equal)
then_equal Less p e = cc
then_equal Equal p e = (refl, e)
then_equal Greater p e = cc

-- tiles of one zoom, column and row are one
one_tile : (t u : TileView) → t.z ≡ u.z → t.x ≡ u.x → t.y ≡ u.y → t ≡ u
one_tile t u z x y = let made : ℕ → ℕ → ℕ → TileView = λ a b d. record { z = a; x = b; y = d } in ap (λ a. made a t.x t.y) z ∙ (ap (λ b. made u.z b t.y) x ∙ ap (λ d. made u.z u.x d) y)

same_place : (t u : TileView) → t.z ≡ u.z → tile_cmp t u ≡ Equal → t ≡ u
same_place t u z e =
    let both = then_equal (nat_cmp t.x u.x) (nat_cmp t.y u.y) e in
    one_tile t u z (nat_equal t.x u.x both.0) (nat_equal t.y u.y both.1)

-- at one zoom the order is that by column and row
at_one_zoom : (t u : TileView) → t.z ≡ u.z → full_cmp t u ≡ tile_cmp t u
at_one_zoom t u z = ap (λ o. ordering_then o (tile_cmp t u)) (sym (nat_cmp_is t.z u.z Equal z))

-- whether two tiles are one
abbrev pub same : TileView → TileView → Bool
same t u = t.z == u.z && (t.x == u.x && t.y == u.y)

same_equiv : IsEquivalence same
same_equiv = and_equiv (on_equiv zoom nat_eq_equiv) (and_equiv (on_equiv column nat_eq_equiv) (on_equiv row nat_eq_equiv))

same_is : (t u : TileView) → same t u ≡ true → t ≡ u
same_is t u e = let z : t.z ≡ u.z = grind (arith, nat_tests) in let x : t.x ≡ u.x = grind (arith, nat_tests) in let y : t.y ≡ u.y = grind (arith, nat_tests) in one_tile t u z x y

same_ties : (t u : TileView) → same t u ≡ eq_by_cmp full_cmp t u
same_ties t u = grind (arith, nat_tests)

-- ---- one more tile

with_tile-from : (t : TileView) (us : List TileView) (x : TileView) → Contains (with_tile t us) x → (t ≡ x) ⊎ Contains us x
with_tile-from t [] x c = member_cases t x [] c
with_tile-from t (u ∷ us) x c =
    elim (tile_cmp t u) as (λ o. Contains (match_ordering o (t ∷ u ∷ us) (u ∷ us) (u ∷ with_tile t us)) x → (t ≡ x) ⊎ Contains (u ∷ us) x) [
      | Less ↦ λ c. member_cases t x (u ∷ us) c
      | Equal ↦ λ c. inr c
      | Greater ↦ λ c. ⊎_elim (λ e. inr (subst (λ y. Contains (u ∷ us) y) e (member_here u us))) (λ d. ⊎_elim (λ e. inl e) (λ f. inr (member_there u x us f)) (with_tile-from t us x d)) (member_cases u x (with_tile t us) c)
    ] c

with_tile-old : (t : TileView) (us : List TileView) (x : TileView) → Contains us x → Contains (with_tile t us) x
with_tile-old t [] x c = absurd (no_member x c)
with_tile-old t (u ∷ us) x c =
    elim (tile_cmp t u) as (λ o. Contains (match_ordering o (t ∷ u ∷ us) (u ∷ us) (u ∷ with_tile t us)) x) [
      | Less ↦ member_there t x (u ∷ us) c
      | Equal ↦ c
      | Greater ↦ ⊎_elim (λ e. subst (λ y. Contains (u ∷ with_tile t us) y) e (member_here u (with_tile t us))) (λ d. member_there u x (with_tile t us) (with_tile-old t us x d)) (member_cases u x us c)
    ]

with_tile-new : (t : TileView) (us : List TileView) → ((u : TileView) → Contains us u → t.z ≡ u.z) → Contains (with_tile t us) t
with_tile-new t [] one = member_here t []
with_tile-new t (u ∷ us) one =
    elim (tile_cmp t u) as (λ o. tile_cmp t u ≡ o → Contains (match_ordering o (t ∷ u ∷ us) (u ∷ us) (u ∷ with_tile t us)) t) [
      | Less ↦ λ e. member_here t (u ∷ us)
      | Equal ↦ λ e. subst (λ y. Contains (u ∷ us) y) (sym (same_place t u (one u (member_here u us)) e)) (member_here u us)
      | Greater ↦ λ e. member_there u t (with_tile t us) (with_tile-new t us (λ w c. one w (member_there u w us c)))
    ] refl

with_tile-rises : (t : TileView) (us : List TileView) → IsStrictlySortedBy tile_cmp us → IsStrictlySortedBy tile_cmp (with_tile t us)
unfolding IsStrictlySortedBy
with_tile-rises t [] s = (tt, tt)
with_tile-rises t (u ∷ us) s =
    elim (tile_cmp t u) as (λ o. tile_cmp t u ≡ o → IsStrictlySortedBy tile_cmp (match_ordering o (t ∷ u ∷ us) (u ∷ us) (u ∷ with_tile t us))) [
      | Less ↦ λ e. ((e, all_of (λ w. tile_cmp t w ≡ Less) us (λ w c. tile_cmp_total.trans t u w e (all_at (λ w. tile_cmp u w ≡ Less) us w s.0 c))), s)
      | Equal ↦ λ e. s
      | Greater ↦ λ e. (all_of (λ w. tile_cmp u w ≡ Less) (with_tile t us) (λ w c. ⊎_elim (λ same. subst (λ y. tile_cmp u y ≡ Less) same (tile_cmp_total.antisymm u t ∙ ap ordering_reverse e)) (λ d. all_at (λ w. tile_cmp u w ≡ Less) us w s.0 d) (with_tile-from t us w c)), with_tile-rises t us s.1)
    ] refl

-- ---- the tiles in order

rising-rises : (ts : List TileView) → IsStrictlySortedBy tile_cmp (rising ts)
unfolding IsStrictlySortedBy
rising-rises [] = tt
rising-rises (t ∷ ts) = with_tile-rises t (rising ts) (rising-rises ts)

rising-from : (ts : List TileView) (x : TileView) → Contains (rising ts) x → Contains ts x
rising-from [] x c = c
rising-from (t ∷ ts) x c = ⊎_elim (λ e. subst (λ y. Contains (t ∷ ts) y) e (member_here t ts)) (λ d. member_there t x ts (rising-from ts x d)) (with_tile-from t (rising ts) x c)

rising-all : (z : ℕ) (ts : List TileView) → ((t : TileView) → Contains ts t → t.z ≡ z) → (x : TileView) → Contains ts x → Contains (rising ts) x
rising-all z [] at x c = c
rising-all z (t ∷ ts) at x c =
    ⊎_elim
    (λ e. subst (λ y. Contains (with_tile t (rising ts)) y) e (with_tile-new t (rising ts) (λ u d. at t (member_here t ts) ∙ sym (at u (member_there t u ts (rising-from ts u d))))))
    (λ d. with_tile-old t (rising ts) x (rising-all z ts (λ u f. at u (member_there t u ts f)) x d))
    (member_cases t x ts c)

-- a list of one zoom in the order of all tiles is in that by column and row
one_zoom-rises : (z : ℕ) (ts : List TileView) → ((t : TileView) → Contains ts t → t.z ≡ z) → IsStrictlySortedBy full_cmp ts → IsStrictlySortedBy tile_cmp ts
unfolding IsStrictlySortedBy
one_zoom-rises z [] at s = tt
one_zoom-rises z (t ∷ ts) at s =
    (all_of (λ u. tile_cmp t u ≡ Less) ts (λ u c. sym (at_one_zoom t u (at t (member_here t ts) ∙ sym (at u (member_there t u ts c)))) ∙ all_at (λ u. full_cmp t u ≡ Less) ts u s.0 c), one_zoom-rises z ts (λ u c. at u (member_there t u ts c)) s.1)

-- each tile of the list has this zoom
pub at_zoom : (z : ℕ) (ts : List TileView) → list_all (λ t. t.z == z) ts ≡ true → (t : TileView) → Contains ts t → t.z ≡ z
at_zoom z [] all t c = absurd (no_member t c)
at_zoom z (u ∷ ts) all t c =
    let both = and_parts _ _ all in
    ⊎_elim
    (λ e. ap zoom (sym e) ∙ nat_eq-true u.z z both.0)
    (λ d. at_zoom z ts both.1 t d)
    (member_cases u t ts c)
  where
    nat_eq-true : (m n : ℕ) → (m == n) ≡ true → m ≡ n
    nat_eq-true m n e = grind (arith, nat_tests)

-- tiles of one zoom that are sorted by column and row are so by zoom, column and row
fully_sorted : (z : ℕ) (ts : List TileView) → ((t : TileView) → Contains ts t → t.z ≡ z) → IsSorted tile_cmp ts → IsSorted full_cmp ts
fully_sorted z ts at up = λ k d low within.
    let here : (n : ℕ) → n < length ts → (get_or ts n d).z ≡ z = λ n below. at (get_or ts n d) (n, below, get_or_again ts n d below) in
    let one : (get_or ts (k + 1) d).z ≡ (get_or ts k d).z = here (k + 1) within ∙ sym (here k (omega (arith, within))) in
    ap is_lt (at_one_zoom (get_or ts (k + 1) d) (get_or ts k d) one) ∙ up k d low within

-- tiles of one zoom, sorted and without repeats, are the tiles in their order
pub rising_is : (z : ℕ) (ts sorted : List TileView) → list_all (λ t. t.z == z) ts ≡ true → IsPermutation ts sorted → IsSorted tile_cmp sorted → dedup same sorted ≡ rising ts
rising_is z ts sorted all moved up =
    let at = at_zoom z ts all in
    let at_sorted : (x : TileView) → Contains sorted x → x.z ≡ z = λ x c. at x (Contains-permutation _ _ x (IsPermutation-sym _ _ moved) c) in
    let back : (x : TileView) → Contains (dedup same sorted) x → Contains ts x = λ x c. Contains-permutation _ _ x (IsPermutation-sym _ _ moved) (Contains-from_dedup same sorted x c) in
    same_list tile_cmp_total (dedup same sorted) (rising ts)
    (one_zoom-rises z (dedup same sorted) (λ t c. at t (back t c)) (IsStrictlySortedBy-dedup full_cmp_total same_ties sorted (fully_sorted z sorted at_sorted up)))
    (rising-rises ts)
    (λ x c. rising-all z ts at x (back x c))
    (λ x c. Contains-dedup same_equiv same_is sorted x (Contains-permutation _ _ x moved (rising-from ts x c)))

-- what the type of a feature keeps of its tiles
pub rising-pairs : (ts : List TileView) → AllPairs (λ t u. tile_cmp t u ≡ Less) (rising ts)
rising-pairs ts = pairs_rise tile_cmp_total (rising ts) (rising-rises ts)

with_tile-length : (t : TileView) (us : List TileView) → (0 < length (with_tile t us)) × (length (with_tile t us) ≤ length us + 1)
with_tile-length t [] = (omega arith, omega arith)
with_tile-length t (u ∷ us) =
    elim (tile_cmp t u) as (λ o. (0 < length (match_ordering o (t ∷ u ∷ us) (u ∷ us) (u ∷ with_tile t us))) × (length (match_ordering o (t ∷ u ∷ us) (u ∷ us) (u ∷ with_tile t us)) ≤ length (u ∷ us) + 1)) [
      | Less ↦ (omega arith, omega arith)
      | Equal ↦ (omega arith, omega arith)
      | Greater ↦ (omega arith, omega (arith, (with_tile-length t us).1))
    ]

-- the tiles in their order are no more than the tiles, and some where they are some
pub rising-length : (ts : List TileView) → (0 < length ts → 0 < length (rising ts)) × (length (rising ts) ≤ length ts)
rising-length [] = (λ h. h, omega arith)
rising-length (t ∷ ts) = (λ h. (with_tile-length t (rising ts)).0, omega (arith, (with_tile-length t (rising ts)).1, (rising-length ts).1))

with_tile_all : (P : TileView → Type 0) (t : TileView) (ts : List TileView) → P t → All P ts → All P (with_tile t ts)
with_tile_all P t [] one all = All-cons P t [] one all
with_tile_all P t (u ∷ us) one all = by_order (with_tile_all P t us one (All-tail P u us all)) (tile_cmp t u) refl
  where
    by_order : All P (with_tile t us) → (o : Ordering) → tile_cmp t u ≡ o → All P (with_tile t (u ∷ us))
    by_order later Less e = rw e (All-cons P t (u ∷ us) one all)
    by_order later Equal e = rw e all
    by_order later Greater e = rw e (All-cons P u (with_tile t us) (All-head P u us all) later)

-- what holds of all tiles holds of them in their order
pub rising_all : (P : TileView → Type 0) (ts : List TileView) → All P ts → All P (rising ts)
rising_all P [] all = all
rising_all P (t ∷ ts) all = with_tile_all P t (rising ts) (All-head P t ts all) (rising_all P ts (All-tail P t ts all))

-- they have the one zoom
pub rising-zoom : (z : ℕ) (ts : List TileView) → list_all (λ t. t.z == z) ts ≡ true → AllPairs (λ t u. t.z ≡ u.z) (rising ts)
rising-zoom z ts all = λ i j d l m.
    let here : (k : ℕ) → k < length (rising ts) → (get_or (rising ts) k d).z ≡ z = λ k within. at_zoom z ts all (get_or (rising ts) k d) (rising-from ts (get_or (rising ts) k d) (k, within, get_or_again (rising ts) k d within)) in
    here i (omega (arith, l, m)) ∙ sym (here j m)
