-- Roots and children are partials, and each piece is a root.
use Rattle.std.proofs.Common.{◌≡◌, ℕ, zero, suc, ◌+◌, ◌<◌, ◌≤◌, Bool, true, false, ◌&&◌, ◌||◌, ⊎_elim, List, [], ◌∷◌, ◌++◌, length, get_or, map, All, refl, sym, ap, subst, arith, length-append, Some, slice_get, Ordering, Less, Equal, Greater, nat_cmp}
use Rattle.std.specs.Prelude.{AllPairs, Contains, nat_eq, nat_lt, nat_le}
use Rattle.std.specs.List.{list_all}
use Rattle.std.specs.Cmp.{IsTotalOrder}
use Rattle.std.specs.Ordering.{ordering_then}
use Rattle.std.proofs.lemmas.Cmp.{nat_cmp_total, on_total, then_total, back_total, nat_eq_equiv, ranked}
use Rattle.std.proofs.lemmas.Bool.{and_parts, ltb-true, eqb-true, eq-eqb, ne_eqb}
use Rattle.std.proofs.lemmas.List.Elements.{All-contains, All-cons, Contains-append_cases, All-push}
use Rattle.std.proofs.lemmas.List.Kept.{AllPairs-cons}
use Rattle.std.proofs.lemmas.List.Quantifiers.{all_pairs_push}
use Rattle.geo_base.specs.declared.job.Job.{Job}
use Rattle.geo_base.specs.Best.{IsMet, IsBest, best_of}
use Rattle.geo_base.specs.Job.{job_compat, IsPieceOf, IsJob}
use Rattle.stackable.specs.Partial.{no_piece, piece_at, numbers_below, piece_numbers, piece_below, candidates, children, bound, root_cmp, roots, IsPartial}
use Rattle.geo_base.proofs.Members.{member_here, member_there, member_cases, no_member, member_of_filter, all_from_members, pairs_head, pairs_tail}
use Rattle.geo_base.proofs.BestFacts.{best_of_is_best, not_before_itself}
use Rattle.geo_base.proofs.SettledFacts.{no_more_targets}
use Rattle.stackable.proofs.UnderFacts.{number_below}

pub below_number : (n k : ℕ) → Contains (numbers_below n) k → k < n
below_number zero k h = absurd (no_member k h)
below_number (suc n) k h =
    ⊎_elim
    (λ t. omega (arith, below_number n k t))
    (λ t. ⊎_elim (λ (e : n ≡ k). omega (arith, e)) (λ none. absurd (no_member k none)) (member_cases n k [] t))
    (Contains-append_cases (numbers_below n) (n ∷ []) k h)

numbers_length : (n : ℕ) → length (numbers_below n) ≡ n
numbers_length zero = refl
numbers_length (suc n) = omega (arith, length-append (numbers_below n) (n ∷ []), numbers_length n)

all_from_list_test : {X : Type 0} (p : X → Bool) (xs : List X) → list_all p xs ≡ true → All (λ x. p x ≡ true) xs
all_from_list_test p [] h = λ k d l. absurd (omega (arith, l))
all_from_list_test p (x ∷ xs) h = let both = and_parts (p x) (list_all p xs) h in All-cons (λ y. p y ≡ true) x xs both.0 (all_from_list_test p xs both.1)

pub at_from_member : {X : Type 0} (xs : List X) (x : X) → Contains xs x → (k : ℕ) × (k < length xs) × (slice_get xs k ≡ Some x)
at_from_member [] x c = absurd (no_member x c)
at_from_member (y ∷ xs) x c =
    ⊎_elim
    (λ e. (0, omega arith, ap (λ z. Some z) e))
    (λ t. let r = at_from_member xs x t in (suc r.0, omega (arith, r.1), r.2))
    (member_cases y x xs c)

pub member_from_at : {X : Type 0} (xs : List X) (k : ℕ) (x : X) → slice_get xs k ≡ Some x → (k < length xs) × Contains xs x
member_from_at [] k x e = absurd (cc e)
member_from_at (y ∷ xs) zero x e = let same : y ≡ x = cc e in (omega arith, subst (λ z. Contains (y ∷ xs) z) same (member_here y xs))
member_from_at (y ∷ xs) (suc k) x e = let r = member_from_at xs k x e in (omega (arith, r.0), member_there y x xs r.1)

module _ (job : Job) (is : IsJob job) where
  -- falling layers: a partial has no more pieces than its first layer and one
  falling : (k : ℕ) (rest : List ℕ) → AllPairs (λ i j. piece_below job i j ≡ true) (k ∷ rest) → length (k ∷ rest) ≤ (piece_at job k).layer + 1
  falling k [] pairs = omega arith
  falling k (j ∷ rest) pairs =
      let below : piece_below job k j ≡ true = All-contains (λ i. piece_below job k i ≡ true) (j ∷ rest) j (pairs_head (λ i j. piece_below job i j ≡ true) k (j ∷ rest) pairs) (member_here j rest) in
      let p = piece_at job k in
      let q = piece_at job j in
      let outer = and_parts (nat_lt q.layer p.layer && (nat_le p.to q.from || nat_le q.to p.from)) (job_compat job p.layer q.layer) below in
      let less : q.layer < p.layer = ltb-true q.layer p.layer (and_parts (nat_lt q.layer p.layer) (nat_le p.to q.from || nat_le q.to p.from) outer.0).0 in
      omega (arith, less, falling j rest (pairs_tail (λ i j. piece_below job i j ≡ true) k (j ∷ rest) pairs))

  short_enough : (p : List ℕ) → AllPairs (λ i j. piece_below job i j ≡ true) p → All (Contains (piece_numbers job)) p → length p ≤ 16
  short_enough [] pairs chosen = omega arith
  short_enough (k ∷ rest) pairs chosen =
      let inside : k < length job.pieces = below_number (length job.pieces) k (All-contains (Contains (piece_numbers job)) (k ∷ rest) k chosen (member_here k rest)) in
      let piece : IsPieceOf job.tokens (piece_at job k) = is.pieces k no_piece inside in
      omega (arith, falling k rest pairs, piece.layer)

  -- a partial with a candidate at its end is a partial
  pub child_is_partial : (p : List ℕ) (k : ℕ) → IsPartial job p → Contains (candidates job p) k → IsPartial job (p ++ k ∷ [])
  child_is_partial p k partial candidate =
      let found = member_of_filter (λ i. list_all (λ j. piece_below job j i) p) (piece_numbers job) k candidate in
      let below : All (λ j. piece_below job j k ≡ true) p = all_from_list_test (λ j. piece_below job j k) p found.1 in
      let stacked : AllPairs (λ i j. piece_below job i j ≡ true) (p ++ k ∷ []) = all_pairs_push (λ i j. piece_below job i j ≡ true) p k partial.stacked (λ i d l. below i d l) in
      let chosen : All (Contains (piece_numbers job)) (p ++ k ∷ []) = All-push (Contains (piece_numbers job)) p k partial.chosen found.0 in
      record { some = omega (arith, length-append p (k ∷ [])); few = short_enough (p ++ k ∷ []) stacked chosen; stacked = stacked; chosen = chosen }

  -- each child is a partial
  pub child_at : (p : List ℕ) → IsPartial job p → (ps : List (List ℕ)) → ps ≡ children job p → (i : ℕ) (d : List ℕ) → i < length ps → IsPartial job (get_or ps i d)
  child_at p partial ps all i d inside = at (candidates job p) (λ k h. child_is_partial p k partial h) ps all i inside
    where
      at : (ks : List ℕ) → ((k : ℕ) → Contains ks k → IsPartial job (p ++ k ∷ [])) → (qs : List (List ℕ)) → qs ≡ map (λ k. p ++ k ∷ []) ks → (i : ℕ) → i < length qs → IsPartial job (get_or qs i d)
      at [] h qs e i l = absurd (omega (arith, l, ap (length {A = List ℕ}) e))
      at (k ∷ ks) h qs e zero l = subst (λ rs. IsPartial job (get_or rs 0 d)) (sym e) (h k (member_here k ks))
      at (k ∷ ks) h qs e (suc i) l =
          subst (λ rs. IsPartial job (get_or rs (suc i) d)) (sym e)
          (at ks (λ j m. h j (member_there k j ks m)) (map (λ j. p ++ j ∷ []) ks) refl i (omega (arith, l, ap (length {A = List ℕ}) e)))

  pub one_is_partial : (k : ℕ) → Contains (piece_numbers job) k → IsPartial job (k ∷ [])
  one_is_partial k h = record { some = omega arith; few = omega arith; stacked = λ i j d l m. absurd (omega (arith, l, m)); chosen = All-cons (Contains (piece_numbers job)) k [] h (λ i d l. absurd (omega (arith, l))) }

  pub root_cmp_total : IsTotalOrder (root_cmp job)
  root_cmp_total = then_total (back_total (on_total (λ (k : ℕ). bound job (k ∷ [])) nat_cmp_total)) nat_cmp_total

  then_equal : (o p : Ordering) → ordering_then o p ≡ Equal → p ≡ Equal
  then_equal Less p e = absurd (cc e)
  then_equal Equal p e = e
  then_equal Greater p e = absurd (cc e)

  pub root_tie : (j k : ℕ) → root_cmp job j k ≡ Equal → j ≡ k
  root_tie j k e = ranked j k Equal (sym (then_equal (nat_cmp (bound job (k ∷ [])) (bound job (j ∷ []))) (nat_cmp j k) e))

  pub root_best : IsBest (root_cmp job) nat_eq (length job.pieces) (Contains (piece_numbers job)) (best_of (root_cmp job) nat_eq (length job.pieces) (piece_numbers job))
  root_best = best_of_is_best root_cmp_total nat_eq_equiv (length job.pieces) (piece_numbers job) (λ a b p q e. root_tie a b e)

  -- each root is a partial
  pub root_is_partial : (k : ℕ) (r : List ℕ) → slice_get (roots job) k ≡ Some r → IsPartial job r
  root_is_partial k r e = by_map (best_of (root_cmp job) nat_eq (length job.pieces) (piece_numbers job)) (λ j h. All-contains (Contains (piece_numbers job)) (best_of (root_cmp job) nat_eq (length job.pieces) (piece_numbers job)) j root_best.chosen h) k e
    where
      by_map : (ns : List ℕ) → ((j : ℕ) → Contains ns j → Contains (piece_numbers job) j) → (k : ℕ) → slice_get (map (λ j. j ∷ []) ns) k ≡ Some r → IsPartial job r
      by_map [] all k e = absurd (cc e)
      by_map (j ∷ ns) all zero e = let same : j ∷ [] ≡ r = cc e in subst (IsPartial job) same (one_is_partial j (all j (member_here j ns)))
      by_map (j ∷ ns) all (suc k) e = by_map ns (λ i h. all i (member_there j i ns h)) k e

  -- each piece is a root
  pub piece_is_root : (j : ℕ) → j < length job.pieces → (k : ℕ) × (k < length (roots job)) × (slice_get (roots job) k ≡ Some (j ∷ []))
  piece_is_root j inside = at_map (best_of (root_cmp job) nat_eq (length job.pieces) (piece_numbers job)) (
      ⊎_elim
      (λ (m : IsMet (root_cmp job) nat_eq (best_of (root_cmp job) nat_eq (length job.pieces) (piece_numbers job)) j). let e : m.0 ≡ j = eqb-true m.0 j m.2 in subst (λ z. Contains (best_of (root_cmp job) nat_eq (length job.pieces) (piece_numbers job)) z) e m.1)
      (λ full. let ns = best_of (root_cmp job) nat_eq (length job.pieces) (piece_numbers job) in
      let apart : All (λ b. nat_eq j b ≡ false) (best_of (root_cmp job) nat_eq (length job.pieces) (piece_numbers job)) = all_from_members (λ b. nat_eq j b ≡ false) (best_of (root_cmp job) nat_eq (length job.pieces) (piece_numbers job)) (λ b h. ne_eqb j b (λ e.
      not_before_itself root_cmp_total nat_eq_equiv j (subst (λ z. root_cmp job z j ≡ Less) (sym e) (All-contains (λ i. root_cmp job i j ≡ Less) (best_of (root_cmp job) nat_eq (length job.pieces) (piece_numbers job)) b full.1 h)))) in
      let many : length (j ∷ best_of (root_cmp job) nat_eq (length job.pieces) (piece_numbers job)) ≤ length (piece_numbers job) =
      no_more_targets root_cmp_total nat_eq_equiv (j ∷ best_of (root_cmp job) nat_eq (length job.pieces) (piece_numbers job)) (piece_numbers job)
      (AllPairs-cons (λ a b. nat_eq a b ≡ false) j (best_of (root_cmp job) nat_eq (length job.pieces) (piece_numbers job)) apart root_best.one_each)
      (λ x h. (
        x,
        ⊎_elim
            (λ e. subst (λ z. Contains (piece_numbers job) z) e (number_below (length job.pieces) j inside))
            (λ t. All-contains (Contains (piece_numbers job)) (best_of (root_cmp job) nat_eq (length job.pieces) (piece_numbers job)) x root_best.chosen t)
            (member_cases j x (best_of (root_cmp job) nat_eq (length job.pieces) (piece_numbers job)) h),
        eq-eqb x x refl,
      )) in
      absurd (omega (arith, many, numbers_length (length job.pieces), full.0)))
      (root_best.complete j (number_below (length job.pieces) j inside)))
    where
      at_map : (ns : List ℕ) → Contains ns j → (k : ℕ) × (k < length (map (λ i. i ∷ []) ns)) × (slice_get (map (λ i. i ∷ []) ns) k ≡ Some (j ∷ []))
      at_map [] h = absurd (no_member j h)
      at_map (i ∷ ns) h =
          ⊎_elim
          (λ e. (0, omega arith, ap (λ z. Some (z ∷ [])) e))
          (λ t. let r = at_map ns t in (suc r.0, omega (arith, r.1), r.2))
          (member_cases i j ns h)
