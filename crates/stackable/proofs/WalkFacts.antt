-- The walk reaches each partial once.
use Rattle.std.proofs.Common.{◌≡◌, ◌≢◌, ◌↔◌, ℕ, zero, suc, ◌<◌, ◌≤◌, true, ⊎_elim, List, [], ◌∷◌, ◌++◌, length, map, refl, sym, ◌∙◌, ap, subst, arith, append_assoc, append-nil, length-append, nat_eq}
use Rattle.std.specs.Prelude.{AllPairs, Contains, flat_map}
use Rattle.std.specs.List.{list_all}
use Rattle.std.proofs.lemmas.Bool.{and_from, eq-eqb}
use Rattle.std.proofs.lemmas.List.Elements.{All-contains, All-map, Contains-append_cases, Contains-append_right}
use Rattle.std.proofs.lemmas.List.Kept.{AllPairs-cons, AllPairs-filter}
use Rattle.std.proofs.lemmas.List.Quantifiers.{all_pairs_push}
use Rattle.geo_base.specs.declared.job.Job.{Job}
use Rattle.geo_base.specs.Best.{best_of}
use Rattle.geo_base.specs.Job.{IsJob}
use Rattle.stackable.specs.Partial.{numbers_below, piece_numbers, piece_below, candidates, children, root_cmp, roots, IsPartial}
use Rattle.stackable.specs.Walk.{reached_from, reached}
use Rattle.geo_base.proofs.Members.{member_here, member_there, member_cases, no_member, member_in_filter, member_of_map, member_in_map, member_of_flat_map, member_in_flat_map, all_from_members, before_later, pairs_head, pairs_tail}
use Rattle.stackable.proofs.TreeFacts.{below_number, member_from_at, child_is_partial, piece_is_root, one_is_partial, root_best}

-- ---- lists without repeats

-- no two members are the same
abbrev Differ : {X : Type 0} → List X → Type 0
Differ {X} xs = AllPairs (λ (a b : X). a ≢ b) xs

pairs_of_map : {X Y : Type 0} (R : Y → Y → Type 0) (f : X → Y) (xs : List X) → AllPairs (λ a b. R (f a) (f b)) xs → AllPairs R (map f xs)
pairs_of_map R f [] pairs = λ i j d less within. absurd (omega (arith, within))
pairs_of_map R f (x ∷ xs) pairs =
    AllPairs-cons R (f x) (map f xs)
    (All-map (R (f x)) f xs (pairs_head (λ a b. R (f a) (f b)) x xs pairs))
    (pairs_of_map R f xs (pairs_tail (λ a b. R (f a) (f b)) x xs pairs))

both_differ : {X : Type 0} (xs ys : List X) → Differ xs → Differ ys → ((x : X) → Contains xs x → Contains ys x → ⊥) → Differ (xs ++ ys)
both_differ [] ys first second apart = second
both_differ (x ∷ xs) ys first second apart =
    AllPairs-cons (λ a b. a ≢ b) x (xs ++ ys)
    (all_from_members (λ y. x ≢ y) (xs ++ ys) (λ y h same.
    ⊎_elim
    (λ early. All-contains (λ z. x ≢ z) xs y (pairs_head (λ a b. a ≢ b) x xs first) early same)
    (λ late. apart x (member_here x xs) (subst (Contains ys) (sym same) late))
    (Contains-append_cases xs ys y h)))
    (both_differ xs ys (pairs_tail (λ a b. a ≢ b) x xs first) second (λ z h. apart z (member_there x z xs h)))

-- lists without repeats, made of things that differ, where no two share a member
flat_differ : {X Y : Type 0} (f : X → List Y) (xs : List X) → Differ xs → ((x : X) → Contains xs x → Differ (f x))
    → ((x z : X) (y : Y) → Contains xs x → Contains xs z → Contains (f x) y → Contains (f z) y → x ≡ z) → Differ (flat_map f xs)
flat_differ f [] pairs each one = λ i j d less within. absurd (omega (arith, within))
flat_differ f (x ∷ xs) pairs each one =
    both_differ (f x) (flat_map f xs) (each x (member_here x xs))
    (flat_differ f xs (pairs_tail (λ a b. a ≢ b) x xs pairs) (λ z h. each z (member_there x z xs h)) (λ z w y h g. one z w y (member_there x z xs h) (member_there x w xs g)))
    (λ y here later. let from = member_of_flat_map f xs y later in
    All-contains (λ z. x ≢ z) xs from.0 (pairs_head (λ a b. a ≢ b) x xs pairs) from.1 (one x from.0 y (member_here x xs) (member_there x from.0 xs from.1) here from.2))

numbers_rise : (n : ℕ) → AllPairs (λ a b. a < b) (numbers_below n)
numbers_rise zero = λ i j d less within. absurd (omega (arith, within))
numbers_rise (suc n) = all_pairs_push (λ a b. a < b) (numbers_below n) n (numbers_rise n) (all_from_members (λ k. k < n) (numbers_below n) (λ k h. below_number n k h))

-- what follows the same front
after_front : (p xs ys : List ℕ) → p ++ xs ≡ p ++ ys → xs ≡ ys
after_front [] xs ys e = e
after_front (k ∷ p) xs ys e = after_front p xs ys (tails k (p ++ xs) (p ++ ys) e)
  where
    tails : (k : ℕ) (us vs : List ℕ) → k ∷ us ≡ k ∷ vs → us ≡ vs
    tails k us vs e = cc e

heads : (k j : ℕ) (us vs : List ℕ) → k ∷ us ≡ j ∷ vs → k ≡ j
heads k j us vs e = cc e

-- ---- the walk

module _ (job : Job) (is : IsJob job) where
  -- what is reached from a partial begins with it, and is a partial
  begins : (n : ℕ) (p c : List ℕ) → IsPartial job p → Contains (reached_from job n p) c → (rest : List ℕ) × (c ≡ p ++ rest) × IsPartial job c
  begins zero p c partial h =
      ⊎_elim
      (λ (e : p ≡ c). ([], sym e ∙ sym (append-nil p), subst (IsPartial job) e partial))
      (λ t. absurd (no_member c t))
      (member_cases p c [] h)
  begins (suc n) p c partial h =
      ⊎_elim
      (λ (e : p ≡ c). ([], sym e ∙ sym (append-nil p), subst (IsPartial job) e partial))
      (λ t. let from = member_of_flat_map (reached_from job n) (children job p) c t in
      let child = member_of_map (λ k. p ++ k ∷ []) (candidates job p) from.0 from.1 in
      let next : IsPartial job from.0 = subst (IsPartial job) child.2 (child_is_partial job is p child.0 partial child.1) in
      let there = begins n from.0 c next from.2 in (
        child.0 ∷ there.0,
        there.1 ∙ (ap (λ xs. xs ++ there.0) (sym child.2) ∙ append_assoc p (child.0 ∷ []) there.0),
        there.2,
      ))
      (member_cases p c (flat_map (reached_from job n) (children job p)) h)

  -- what begins with a partial and goes on with few pieces is reached from it
  reaches : (n : ℕ) (p rest : List ℕ) → length rest ≤ n → IsPartial job p → IsPartial job (p ++ rest) → Contains (reached_from job n p) (p ++ rest)
  reaches zero p [] few partial longer = subst (λ c. Contains (p ∷ []) c) (sym (append-nil p)) (member_here p [])
  reaches zero p (k ∷ rest) few partial longer = absurd (omega (arith, few))
  reaches (suc n) p [] few partial longer = subst (λ c. Contains (p ∷ flat_map (reached_from job n) (children job p)) c) (sym (append-nil p)) (member_here p (flat_map (reached_from job n) (children job p)))
  reaches (suc n) p (k ∷ rest) few partial longer =
      let candidate : Contains (candidates job p) k = member_in_filter (λ i. list_all (λ j. piece_below job j i) p) (piece_numbers job) k
      (All-contains (Contains (piece_numbers job)) (p ++ k ∷ rest) k longer.chosen (Contains-append_right p (k ∷ rest) k (member_here k rest)))
      (all_stand p (λ j h. before_later (λ a b. piece_below job a b ≡ true) p rest j k longer.stacked h)) in
      let same : p ++ k ∷ rest ≡ (p ++ k ∷ []) ++ rest = sym (append_assoc p (k ∷ []) rest) in
      let there : Contains (reached_from job n (p ++ k ∷ [])) ((p ++ k ∷ []) ++ rest) = reaches n (p ++ k ∷ []) rest (omega (arith, few)) (child_is_partial job is p k partial candidate) (subst (IsPartial job) same longer) in
      member_there p (p ++ k ∷ rest) (flat_map (reached_from job n) (children job p))
      (subst (λ c. Contains (flat_map (reached_from job n) (children job p)) c) (sym same)
      (member_in_flat_map (reached_from job n) (children job p) (p ++ k ∷ []) ((p ++ k ∷ []) ++ rest) (member_in_map (λ i. p ++ i ∷ []) (candidates job p) k candidate) there))
    where
      all_stand : (js : List ℕ) → ((j : ℕ) → Contains js j → piece_below job j k ≡ true) → list_all (λ j. piece_below job j k) js ≡ true
      all_stand [] h = refl
      all_stand (j ∷ js) h = and_from (piece_below job j k) (list_all (λ i. piece_below job i k) js) (h j (member_here j js)) (all_stand js (λ i m. h i (member_there j i js m)))

  children_differ : (p : List ℕ) → Differ (children job p)
  children_differ p = pairs_of_map (λ a b. a ≢ b) (λ k. p ++ k ∷ []) (candidates job p)
      (λ i j d less within same. let rise = AllPairs-filter (λ a b. a < b) (λ k. list_all (λ j. piece_below job j k) p) (piece_numbers job) (numbers_rise (length job.pieces)) i j d less within in
      let one = heads _ _ [] [] (after_front p _ _ same) in omega (arith, rise, one))

  -- no partial is reached twice from one
  differ : (n : ℕ) (p : List ℕ) → IsPartial job p → Differ (reached_from job n p)
  differ zero p partial = λ i j d less within. absurd (omega (arith, less, within))
  differ (suc n) p partial =
      AllPairs-cons (λ a b. a ≢ b) p (flat_map (reached_from job n) (children job p))
      (all_from_members (λ c. p ≢ c) (flat_map (reached_from job n) (children job p)) (λ c h same.
      let from = member_of_flat_map (reached_from job n) (children job p) c h in
      let child = of_child from.0 from.1 in
      let there = begins n from.0 c child.2 from.2 in
      omega (arith, ap (length {A = ℕ}) same, ap (length {A = ℕ}) there.1, length-append from.0 there.0, ap (length {A = ℕ}) child.1, length-append p (child.0 ∷ []))))
      (flat_differ (reached_from job n) (children job p) (children_differ p) (λ q h. differ n q (of_child q h).2)
      (λ q r c h g in_q in_r.
      let first = of_child q h in
      let second = of_child r g in
      let along = begins n q c first.2 in_q in
      let other = begins n r c second.2 in_r in
      let tails : first.0 ∷ along.0 ≡ second.0 ∷ other.0 = after_front p (first.0 ∷ along.0) (second.0 ∷ other.0)
      (sym (append_assoc p (first.0 ∷ []) along.0) ∙ (ap (λ xs. xs ++ along.0) (sym first.1) ∙ (sym along.1 ∙ (other.1 ∙ (ap (λ xs. xs ++ other.0) second.1 ∙ append_assoc p (second.0 ∷ []) other.0))))) in
      first.1 ∙ (ap (λ k. p ++ k ∷ []) (heads first.0 second.0 along.0 other.0 tails) ∙ sym second.1)))
    where
      of_child : (q : List ℕ) → Contains (children job p) q → (k : ℕ) × (q ≡ p ++ k ∷ []) × IsPartial job q
      of_child q h =
          let child = member_of_map (λ k. p ++ k ∷ []) (candidates job p) q h in
          (child.0, sym child.2, subst (IsPartial job) child.2 (child_is_partial job is p child.0 partial child.1))

  -- ---- from the roots

  of_root : (r : List ℕ) → Contains (roots job) r → (k : ℕ) × (r ≡ k ∷ []) × IsPartial job r
  of_root r h =
      let from = member_of_map (λ k. k ∷ []) (best_of (root_cmp job) nat_eq (length job.pieces) (piece_numbers job)) r h in
      (from.0, sym from.2, subst (IsPartial job) from.2 (one_is_partial job is from.0 (All-contains (Contains (piece_numbers job)) (best_of (root_cmp job) nat_eq (length job.pieces) (piece_numbers job)) from.0 (root_best job is).chosen from.1)))

  roots_differ : Differ (roots job)
  roots_differ = pairs_of_map (λ a b. a ≢ b) (λ k. k ∷ []) (best_of (root_cmp job) nat_eq (length job.pieces) (piece_numbers job))
      (λ i j d less within same. let one = heads _ _ [] [] same in let tie = eq-eqb _ _ one in let apart = (root_best job is).one_each i j d less within in absurd (cc (tie, apart)))

  -- the walk reaches partials alone
  only_partials : (p : List ℕ) → Contains (reached job) p → IsPartial job p
  only_partials p h =
      let from = member_of_flat_map (reached_from job 15) (roots job) p h in
      (begins 15 from.0 p (of_root from.0 from.1).2 from.2).2

  -- and all of them
  all_partials : (p : List ℕ) → IsPartial job p → Contains (reached job) p
  all_partials [] partial = absurd (omega (arith, partial.some))
  all_partials (k ∷ rest) partial =
      let chosen : Contains (piece_numbers job) k = All-contains (Contains (piece_numbers job)) (k ∷ rest) k partial.chosen (member_here k rest) in
      let at = piece_is_root job is k (below_number (length job.pieces) k chosen) in
      member_in_flat_map (reached_from job 15) (roots job) (k ∷ []) (k ∷ rest) (member_from_at (roots job) at.0 (k ∷ []) at.2).1
      (reaches 15 (k ∷ []) rest (omega (arith, partial.few)) (one_is_partial job is k chosen) partial)

  pub each_is_reached : (p : List ℕ) → Contains (reached job) p ↔ IsPartial job p
  each_is_reached p = (only_partials p, all_partials p)

  -- once
  pub reached_once : AllPairs (λ p q. p ≢ q) (reached job)
  reached_once = flat_differ (reached_from job 15) (roots job) roots_differ (λ r h. differ 15 r (of_root r h).2)
      (λ q r c h g in_q in_r.
      let first = of_root q h in
      let second = of_root r g in
      let along = begins 15 q c first.2 in_q in
      let other = begins 15 r c second.2 in_r in
      let same : first.0 ∷ along.0 ≡ second.0 ∷ other.0 = ap (λ xs. xs ++ along.0) (sym first.1) ∙ (sym along.1 ∙ (other.1 ∙ ap (λ xs. xs ++ other.0) second.1)) in
      first.1 ∙ (ap (λ k. k ∷ []) (heads first.0 second.0 along.0 other.0 same) ∙ sym second.1))
