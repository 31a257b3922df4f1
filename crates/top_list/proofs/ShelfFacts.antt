-- How the contexts of a list lie: what is put beside those that are ranked, and what changes places with one of them.
use Rattle.std.proofs.Common.{◌≡◌, ℕ, zero, suc, ◌+◌, ◌-◌, ◌<◌, ◌≤◌, true, false, List, [], ◌∷◌, ◌++◌, length, take, drop, set, get_or, All, is_lt, refl, sym, ◌∙◌, ap, arith}
use Rattle.std.specs.Prelude.{nat_eq, IsPermutation}
use Rattle.std.specs.List.{SwappedAt, IsDistinct, list_any, refill}
use Rattle.std.proofs.lemmas.List.{map-set, take-set-le, take_more, map-append, length-map, length-take, get_or-map, get_or-take, get_or_default, get_or-set_other, get_or_append_left, length_push, take-append-le, take_all}
use Rattle.std.proofs.lemmas.Bool.{eq-eqb, ne_eqb}
use Rattle.std.proofs.lemmas.Cmp.{nat_eq_equiv}
use Rattle.std.proofs.lemmas.List.Elements.{All-head, All-tail, All-push, All-take, All-weaker}
use Rattle.std.proofs.lemmas.List.Sorted.{All-permutation, length_permutation}
use Rattle.std.proofs.lemmas.Map.Keys.{IsDistinct-IsPermutation, IsDistinct-push, apart_from_distinct}
use Rattle.geo_base.proofs.OrderLaws.{context_cmp_total}
use Rattle.geo_base.proofs.AnswerFacts.{same_target_equiv}
use Rattle.geo_base.specs.declared.link.Link.{Link}
use Rattle.geo_base.specs.Order.{same_target, context_cmp}
use Rattle.geo_base.specs.Placed.{at_places}
use Rattle.top_list.specs.Placed.{placed}
use Rattle.top_list.specs.Ranked.{IsRanked}
use Rattle.top_list.specs.Merged.{merged}
use Rattle.top_list.specs.Shelf.{IsShelf}
use Rattle.top_list.proofs.PlacedFacts.{placed_here, kept_here, placed_on, kept_on, placed_end, placed_full, best_with_one}

-- a change within what is taken
take_set_inside : {X : Type 0} (n i : ℕ) (xs : List X) (y : X) → i < n → take n (set xs i y) ≡ set (take n xs) i y
take_set_inside zero i xs y less = absurd (omega (arith, less))
take_set_inside (suc n) i [] y less = refl
take_set_inside (suc n) zero (x ∷ xs) y less = refl
take_set_inside (suc n) (suc i) (x ∷ xs) y less = ap (λ ys. x ∷ ys) (take_set_inside n i xs y (omega (arith, less)))

-- the one at a place
pub listed : (list : List (List Link)) (order : List ℕ) (i n : ℕ) (x : List Link) → i < n → n ≤ length order → get_or order i 0 < length list → x ≡ get_or list (get_or order i 0) x → x ≡ get_or (at_places list (take n order)) i x
listed list order i n x less long inside is =
    let within : i < length (take n order) = omega (arith, length-take n order, less, long) in
    is ∙ (get_or_default list (get_or order i 0) x [] inside
    ∙ (ap (λ k. get_or list k []) (sym (get_or-take n order i 0 less))
    ∙ sym (get_or-map (λ k. get_or list k []) (take n order) i 0 x within)))

-- the one beside
pub held_is : (list : List (List Link)) (k : ℕ) (x : List Link) → k < length list → x ≡ get_or list k x → x ≡ get_or list k []
held_is list k x inside is = is ∙ get_or_default list k x [] inside

-- how many there are
pub length_listed : (list : List (List Link)) (order : List ℕ) (n : ℕ) → n ≤ length order → length (at_places list (take n order)) ≡ n
length_listed list order n long = length-map (take n order) (λ k. get_or list k []) ∙ omega (arith, length-take n order, long)

-- one more
pub listed_more : (list : List (List Link)) (order : List ℕ) (n : ℕ) → n < length order → at_places list (take (n + 1) order) ≡ at_places list (take n order) ++ get_or list (get_or order n 0) [] ∷ []
listed_more list order n less = ap (at_places list) (take_more order n 0 less) ∙ map-append (λ k. get_or list k []) (take n order) (get_or order n 0 ∷ [])

module _ (list : List (List Link)) (order new : List ℕ) (i n : ℕ) (less : i < n) (swapped : SwappedAt order new i n) where
  -- the one beside takes the place
  pub exchanged : at_places list (take n new) ≡ set (at_places list (take n order)) i (get_or list (get_or order n 0) [])
  exchanged =
      ap (λ places. at_places list (take n places)) (swapped.3 0)
      ∙ (ap (at_places list) (take-set-le n (set order i (get_or order n 0)) n (get_or order i 0) (omega arith) ∙ take_set_inside n i order (get_or order n 0) less)
      ∙ map-set (λ k. get_or list k []) (take n order) i (get_or order n 0))

  -- and the one of the place is beside
  pub beside : get_or list (get_or new n 0) [] ≡ get_or list (get_or order i 0) []
  beside = ap (λ k. get_or list k []) (swapped.1 0)

-- ---- the way of the one beside through the ranked ones

-- what is left of the way at the i-th, where the ranked ones are these and this one is beside
abbrev pub way_left : (i : ℕ) (c : List Link) (xs : List (List Link)) (d : List Link) → List (List Link)
way_left i c xs d = take i xs ++ placed context_cmp same_target (40 - i) c (drop i xs) d

module _ (list : List (List Link)) (order : List ℕ) (i n : ℕ) (c x d : List Link) (whole : List (List Link)) (less : i < n) (long : n < length order) (few : n ≤ 40) (inside : All (λ k. k < length list) order)
    (x_is : x ≡ get_or list (get_or order i 0) x) (d_is : d ≡ get_or list (get_or order n 0) d) (way : way_left i c (at_places list (take n order)) (get_or list (get_or order n 0) []) ≡ whole) where
  abbrev pub xs : List (List Link)
  xs = at_places list (take n order)

  within : i < length xs
  within = omega (arith, less, length_listed list order n (omega (arith, long)))

  short : length xs ≤ 40
  short = omega (arith, few, length_listed list order n (omega (arith, long)))

  at : x ≡ get_or xs i x
  at = listed list order i n x less (omega (arith, long)) (inside i 0 (omega (arith, less, long))) x_is

  held : d ≡ get_or list (get_or order n 0) []
  held = held_is list (get_or order n 0) d (inside n 0 long) d_is

  left : way_left i c xs d ≡ whole
  left = ap (way_left i c xs) held ∙ way

  -- it comes before the one of its target, and takes its place
  pub taken_place : is_lt (context_cmp d x) ≡ true → same_target x c ≡ true → (new : List ℕ) → SwappedAt order new i n → at_places list (take n new) ≡ whole
  taken_place before hit new swapped = exchanged list order new i n less swapped ∙ (ap (set xs i) (sym held) ∙ (sym (placed_here context_cmp same_target 40 i xs c d x within short at before hit) ∙ left))

  -- or it doesn't, and all stays
  pub left_out : is_lt (context_cmp d x) ≡ false → same_target x c ≡ true → xs ≡ whole
  left_out behind hit = sym (kept_here context_cmp same_target 40 i xs c d x within short at behind hit) ∙ left

  -- it comes before another, which is beside then
  pub goes_on : is_lt (context_cmp d x) ≡ true → same_target x c ≡ false → (new : List ℕ) → SwappedAt order new i n → way_left (i + 1) c (at_places list (take n new)) (get_or list (get_or new n 0) []) ≡ whole
  goes_on before miss new swapped =
      let next : get_or list (get_or new n 0) [] ≡ x = beside list order new i n less swapped ∙ sym (held_is list (get_or order i 0) x (inside i 0 (omega (arith, less, long))) x_is) in
      let moved : at_places list (take n new) ≡ set xs i d = exchanged list order new i n less swapped ∙ ap (set xs i) (sym held) in
      ap (way_left (i + 1) c (at_places list (take n new))) next ∙ (ap (λ ys. way_left (i + 1) c ys x) moved ∙ (sym (placed_on context_cmp same_target 40 i xs c d x within short at before miss) ∙ left))

  -- or it doesn't, and stays beside
  pub stays_beside : is_lt (context_cmp d x) ≡ false → same_target x c ≡ false → way_left (i + 1) c xs (get_or list (get_or order n 0) []) ≡ whole
  stays_beside behind miss = ap (way_left (i + 1) c xs) (sym held) ∙ (sym (kept_on context_cmp same_target 40 i xs c d x within short at behind miss) ∙ left)

module _ (list : List (List Link)) (order : List ℕ) (i n : ℕ) (c : List Link) (whole : List (List Link)) (end : n ≤ i) (long : n < length order) (way : way_left i c (at_places list (take n order)) (get_or list (get_or order n 0) []) ≡ whole) where
  past : length (at_places list (take n order)) ≤ i
  past = omega (arith, end, length_listed list order n (omega (arith, long)))

  -- at the end what is beside comes last, where there is room
  pub comes_last : i < 40 → at_places list (take (n + 1) order) ≡ whole
  comes_last room = listed_more list order n long ∙ (sym (placed_end context_cmp same_target 40 i (at_places list (take n order)) c (get_or list (get_or order n 0) []) past room) ∙ way)

  -- else it stays beside
  pub falls_out : 40 ≤ i → at_places list (take n order) ≡ whole
  falls_out full = sym (placed_full context_cmp same_target 40 i (at_places list (take n order)) c (get_or list (get_or order n 0) []) past full) ∙ way

-- nothing lies anywhere
pub shelf_empty : IsShelf [] [] 0
unfolding IsDistinct
shelf_empty = record { few = omega arith; there = omega arith; each = refl; inside = λ k d less. absurd (omega (arith, less)); once = tt }

-- ---- what is put beside the ranked ones

-- a list that is one longer has the same at places that it had
same_longer : (list : List (List Link)) (c : List Link) (places : List ℕ) → All (λ i. i < length list) places → at_places (list ++ c ∷ []) places ≡ at_places list places
same_longer list c [] inside = refl
same_longer list c (p ∷ places) inside =
    let here : get_or (list ++ c ∷ []) p [] ≡ get_or list p [] = get_or_append_left list (c ∷ []) [] p (All-head (λ i. i < length list) p places inside) in
    rw here (ap (λ ys. get_or list p [] ∷ ys) (same_longer list c places (All-tail (λ i. i < length list) p places inside)))

-- so has one that was changed elsewhere
same_elsewhere : (list : List (List Link)) (k : ℕ) (c : List Link) (places : List ℕ) → All (λ i. nat_eq i k ≡ false) places → at_places (set list k c) places ≡ at_places list places
same_elsewhere list k c [] apart = refl
same_elsewhere list k c (p ∷ places) apart =
    let differs : nat_eq p k ≡ false = All-head (λ i. nat_eq i k ≡ false) p places apart in
    let other : p ≡ k → ⊥ = λ e. absurd (cc (differs, eq-eqb p k e)) in
    let here : get_or (set list k c) p [] ≡ get_or list p [] = get_or-set_other list k p c [] other in
    rw here (ap (λ ys. get_or list p [] ∷ ys) (same_elsewhere list k c places (All-tail (λ i. nat_eq i k ≡ false) p places apart)))

-- a greater number is none of these
none_greater : (n : ℕ) (xs : List ℕ) → All (λ i. i < n) xs → list_any (nat_eq n) xs ≡ false
none_greater n [] low = refl
none_greater n (x ∷ xs) low =
    let less : x < n = All-head (λ i. i < n) x xs low in
    rw (ne_eqb n x (λ e. omega (arith, e, less)), none_greater n xs (All-tail (λ i. i < n) x xs low)) refl

module _ (list : List (List Link)) (order : List ℕ) (count : ℕ) (c : List Link) (is : IsShelf list order count) where
  pub same_pushed : (n : ℕ) → at_places (list ++ c ∷ []) (take count (order ++ n ∷ [])) ≡ at_places list (take count order)
  same_pushed n = ap (at_places (list ++ c ∷ [])) (take-append-le count order (n ∷ []) is.there) ∙ same_longer list c (take count order) (All-take (λ i. i < length list) count order is.inside)

  pub shelf_pushed : IsShelf (list ++ c ∷ []) (order ++ length list ∷ []) count
  shelf_pushed = record {
    few = is.few;
    there = omega (arith, is.there, length_push order (length list));
    each = omega (arith, is.each, length_push order (length list), length_push list c);
    inside = All-push (λ i. i < length (list ++ c ∷ [])) order (length list) (All-weaker (λ i. i < length list) (λ i. i < length (list ++ c ∷ [])) (λ i less. omega (arith, less, length_push list c)) order is.inside) (omega (arith, length_push list c));
    once = IsDistinct-push nat_eq_equiv order (length list) is.once (none_greater (length list) order is.inside);
  }

  pub same_changed : count < length order → at_places (set list (get_or order count 0) c) (take count order) ≡ at_places list (take count order)
  same_changed long = same_elsewhere list (get_or order count 0) c (take count order) (λ k d less.
      let low : k < count = omega (arith, less, length-take count order, is.there) in
      let at : get_or (take count order) k d ≡ get_or order k 0 = get_or-take count order k d low ∙ get_or_default order k d 0 (omega (arith, low, is.there)) in
      rw at (apart_from_distinct nat_eq order k count 0 is.once low long))

-- what was lent as a slice and given back
pub refilled : {X : Type 0} (xs ws : List X) → length ws ≡ length xs → refill (length xs) xs ws ≡ ws
refilled xs ws long = take-append-le (length xs) ws (drop (length ws) xs) (omega (arith, long)) ∙ take_all (length xs) ws (omega (arith, long))

-- the ranked ones and one more, behind its way
pub put_is : (old : List (List Link)) (c h : List Link) (xs after : List (List Link)) → IsRanked old → h ≡ c → xs ≡ old → after ≡ placed context_cmp same_target 40 h xs h → after ≡ merged old (c ∷ [])
put_is old c h xs after ranked is same way =
    way ∙ (ap (λ d. placed context_cmp same_target 40 d xs d) is ∙ (ap (λ ys. placed context_cmp same_target 40 c ys c) same
    ∙ sym (best_with_one context_cmp_total same_target_equiv 40 old c ranked.in_order ranked.one_each ranked.few)))

-- the places, in another order
pub shelf_moved : (list : List (List Link)) (order new : List ℕ) (count n : ℕ) → IsShelf list order count → IsPermutation order new → n ≤ 40 → n ≤ length new → IsShelf list new n
shelf_moved list order new count n is moved few there = record {
  few = few;
  there = there;
  each = length_permutation order new moved ∙ is.each;
  inside = All-permutation (λ i. i < length list) order new moved is.inside;
  once = IsDistinct-IsPermutation nat_eq (λ x y. nat_eq_equiv.symm x y) order new moved is.once;
}
