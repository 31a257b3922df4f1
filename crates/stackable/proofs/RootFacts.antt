-- Pieces sorted by their bounds are the roots.
use Rattle.std.proofs.Common.{◌≡◌, ℕ, zero, suc, ◌<◌, ◌≤◌, true, false, ◌||◌, inl, ⊎_elim, List, [], ◌∷◌, length, map, get_or, refl, sym, ◌∙◌, ap, ap₂, subst, arith, nat_eq, Less}
use Rattle.std.specs.Prelude.{AllPairs, Contains}
use Rattle.std.specs.List.{IsDistinct, list_any}
use Rattle.std.specs.List.Sorted.{IsPermutation, IsSorted}
use Rattle.std.specs.Ordering.{is_lt}
use Rattle.std.specs.Cmp.{IsTotalOrder}
use Rattle.std.proofs.lemmas.Bool.{eq-eqb, ne_eqb}
use Rattle.std.proofs.lemmas.Cmp.{nat_cmp_total, on_total, then_total, back_total, nat_eq_equiv}
use Rattle.std.proofs.lemmas.List.{get_or-map, length-map, length_push}
use Rattle.std.proofs.lemmas.List.Sorted.{ranks_by, sorted_far, Contains-permutation, IsPermutation-sym, IsPermutation-map, length_permutation}
use Rattle.std.proofs.lemmas.Map.Keys.{IsDistinct-IsPermutation, IsDistinct-push, apart_from_distinct}
use Rattle.geo_base.specs.declared.job.Job.{Job}
use Rattle.geo_base.specs.Best.{best_of, IsBest}
use Rattle.geo_base.specs.Job.{IsJob}
use Rattle.geo_base.proofs.Members.{member_here, member_there, member_of_map, all_from_members}
use Rattle.geo_base.proofs.BestFacts.{cases_of, after_from_greater, best_of_is_best, best_is_one}
use Rattle.stackable.specs.declared.roots.Root.{Root}
use Rattle.stackable.specs.declared.bounded.Bounded.{Bounded}
use Rattle.stackable.specs.Bounded.{with_bound}
use Rattle.stackable.specs.Partial.{numbers_below, piece_numbers, root_cmp, roots}
use Rattle.stackable.specs.RootOrder.{root_of, by_bound}
use Rattle.stackable.proofs.Numbers.{any_push}
use Rattle.stackable.proofs.TreeFacts.{root_cmp_total, root_tie}

pub numbers_long : (m : ℕ) → length (numbers_below m) ≡ m
numbers_long zero = refl
numbers_long (suc m) = omega (arith, length_push (numbers_below m) m, numbers_long m)

pub by_bound_total : IsTotalOrder by_bound
by_bound_total = then_total (back_total (on_total (λ (r : Root). r.bound) nat_cmp_total)) (on_total (λ (r : Root). r.piece) nat_cmp_total)

-- the numbers below another differ
not_below : (n m : ℕ) → m ≤ n → list_any (nat_eq n) (numbers_below m) ≡ false
not_below n zero low = refl
not_below n (suc m) low = any_push (nat_eq n) (numbers_below m) m ∙ (ap (λ b. b || nat_eq n m) (not_below n m (omega (arith, low))) ∙ ne_eqb n m (λ e. omega (arith, e, low)))

numbers_differ : (n : ℕ) → IsDistinct nat_eq (numbers_below n)
unfolding IsDistinct
numbers_differ zero = tt
numbers_differ (suc n) = IsDistinct-push nat_eq_equiv (numbers_below n) n (numbers_differ n) (not_below n n (omega arith))

turned : (x y : ℕ) → nat_eq x y ≡ nat_eq y x
turned x y = nat_eq_equiv.symm x y

module _ (job : Job) (is : IsJob job) (xs ys : List Root) (made : xs ≡ map (root_of job) (piece_numbers job)) (moved : IsPermutation xs ys) (up : IsSorted by_bound ys) where
  no_root : Root
  no_root = record { bound = 0; piece = 0 }

  pieces_back : (ks : List ℕ) → map (λ (r : Root). r.piece) (map (root_of job) ks) ≡ ks
  pieces_back [] = refl
  pieces_back (k ∷ ks) = ap (λ zs. k ∷ zs) (pieces_back ks)

  kept : IsPermutation (piece_numbers job) (map (λ (r : Root). r.piece) ys)
  kept = subst (λ zs. IsPermutation zs (map (λ (r : Root). r.piece) ys)) (ap (map (λ (r : Root). r.piece)) made ∙ pieces_back (piece_numbers job)) (IsPermutation-map (λ (r : Root). r.piece) xs ys moved)

  differ : IsDistinct nat_eq (map (λ (r : Root). r.piece) ys)
  differ = IsDistinct-IsPermutation nat_eq turned (piece_numbers job) (map (λ (r : Root). r.piece) ys) kept (numbers_differ (length job.pieces))

  -- each root has the bound of its piece
  bounded : (r : Root) → Contains ys r → r ≡ root_of job r.piece
  bounded r h =
      let from = member_of_map (root_of job) (piece_numbers job) r (subst (λ zs. Contains zs r) made (Contains-permutation ys xs r (IsPermutation-sym xs ys moved) h)) in
      sym (subst (λ (z : Root). root_of job z.piece ≡ z) from.2 refl)

  number_of : (i d : ℕ) → i < length ys → get_or (map (λ (r : Root). r.piece) ys) i d ≡ (get_or ys i no_root).piece
  number_of i d within = get_or-map (λ (r : Root). r.piece) ys i no_root d within

  in_order : AllPairs (λ a b. root_cmp job a b ≡ Less) (map (λ (r : Root). r.piece) ys)
  in_order i j d less within =
      let inside : j < length ys = omega (arith, within, length-map ys (λ (r : Root). r.piece)) in
      let a = get_or ys i no_root in
      let b = get_or ys j no_root in
      let of_a : a ≡ root_of job a.piece = bounded a (member_at ys i no_root (omega (arith, less, inside))) in
      let of_b : b ≡ root_of job b.piece = bounded b (member_at ys j no_root inside) in
      let not_after : is_lt (by_bound b a) ≡ false = sorted_far (λ x y. is_lt (by_bound x y)) (ranks_by by_bound_total (λ x. x)) ys up i j no_root (omega (arith, less)) inside in
      let late : is_lt (root_cmp job b.piece a.piece) ≡ false = ap₂ (λ x y. is_lt (by_bound x y)) (sym of_b) (sym of_a) ∙ not_after in
      let apart : nat_eq a.piece b.piece ≡ false = ap₂ nat_eq (sym (number_of i d (omega (arith, less, inside)))) (sym (number_of j d inside)) ∙ apart_from_distinct nat_eq (map (λ (r : Root). r.piece) ys) i j d differ less within in
      subst (λ z. root_cmp job z (get_or (map (λ (r : Root). r.piece) ys) j d) ≡ Less) (sym (number_of i d (omega (arith, less, inside))))
      (subst (λ z. root_cmp job a.piece z ≡ Less) (sym (number_of j d inside)) (earlier a.piece b.piece late apart))
    where
      member_at : (zs : List Root) (k : ℕ) (e : Root) → k < length zs → Contains zs (get_or zs k e)
      member_at [] k e l = absurd (omega (arith, l))
      member_at (z ∷ zs) zero e l = member_here z zs
      member_at (z ∷ zs) (suc k) e l = member_there z (get_or zs k e) zs (member_at zs k e (omega (arith, l)))

      earlier : (x y : ℕ) → is_lt (root_cmp job y x) ≡ false → nat_eq x y ≡ false → root_cmp job x y ≡ Less
      earlier x y late apart =
          ⊎_elim
          (λ less. less)
          (λ other. ⊎_elim
          (λ tie. let same : nat_eq x y ≡ true = eq-eqb x y (root_tie job is x y tie) in absurd (cc (same, apart)))
          (λ after. let before : is_lt (root_cmp job y x) ≡ true = ap is_lt (after_from_greater (root_cmp_total job is) nat_eq_equiv x y after) in absurd (cc (before, late)))
          other)
          (cases_of (root_cmp job x y))

  one_each : AllPairs (λ a b. nat_eq a b ≡ false) (map (λ (r : Root). r.piece) ys)
  one_each i j d less within = apart_from_distinct nat_eq (map (λ (r : Root). r.piece) ys) i j d differ less within

  sorted_best : IsBest (root_cmp job) nat_eq (length job.pieces) (Contains (piece_numbers job)) (map (λ (r : Root). r.piece) ys)
  sorted_best = record {
    few = omega (arith, length_permutation (piece_numbers job) (map (λ (r : Root). r.piece) ys) kept, numbers_long (length job.pieces));
    chosen = all_from_members (Contains (piece_numbers job)) (map (λ (r : Root). r.piece) ys) (λ k h. Contains-permutation (map (λ (r : Root). r.piece) ys) (piece_numbers job) k (IsPermutation-sym (piece_numbers job) (map (λ (r : Root). r.piece) ys) kept) h);
    in_order = in_order;
    one_each = one_each;
    complete = λ k h. inl (k, Contains-permutation (piece_numbers job) (map (λ (r : Root). r.piece) ys) k kept h, eq-eqb k k refl, inl refl);
  }

  -- sorted by their bounds, the pieces are the roots
  pub sorted_roots : map (λ (r : Root). r.piece ∷ []) ys ≡ roots job
  sorted_roots =
      two_maps ys ∙ ap (map (λ k. k ∷ [])) (best_is_one (root_cmp_total job is) nat_eq_equiv (λ a b p q e. root_tie job is a b e) (map (λ (r : Root). r.piece) ys) (best_of (root_cmp job) nat_eq (length job.pieces) (piece_numbers job))
      sorted_best (best_of_is_best (root_cmp_total job is) nat_eq_equiv (length job.pieces) (piece_numbers job) (λ a b p q e. root_tie job is a b e)))
    where
      two_maps : (zs : List Root) → map (λ (r : Root). r.piece ∷ []) zs ≡ map (λ k. k ∷ []) (map (λ (r : Root). r.piece) zs)
      two_maps [] = refl
      two_maps (z ∷ zs) = ap (λ rest. (z.piece ∷ []) ∷ rest) (two_maps zs)

  -- and have their bounds
  pub sorted_bounds : map (λ (r : Root). record { partial = r.piece ∷ []; bound = r.bound }) ys ≡ map (with_bound job) (roots job)
  sorted_bounds = each ys bounded ∙ ap (map (with_bound job)) sorted_roots
    where
      each : (zs : List Root) → ((r : Root) → Contains zs r → r ≡ root_of job r.piece) → map (λ (r : Root). record { partial = r.piece ∷ []; bound = r.bound }) zs ≡ map (with_bound job) (map (λ (r : Root). r.piece ∷ []) zs)
      each [] h = refl
      each (z ∷ zs) h =
          ap₂ (λ (b : Bounded) (rest : List Bounded). b ∷ rest)
          (ap (λ n. record { partial = z.piece ∷ []; bound = n }) (ap (λ (r : Root). r.bound) (h z (member_here z zs))))
          (each zs (λ r m. h r (member_there z r zs m)))
