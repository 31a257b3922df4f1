-- The survivors of a partial are contexts of exactly its pieces, and settle them all.
use Rattle.std.proofs.Common.{◌≡◌, ℕ, ◌<◌, ◌≤◌, Bool, true, false, inl, inr, ⊎_elim, List, [], ◌∷◌, length, map, All, refl, sym, ◌∙◌, ap, subst, arith, Option, Some, None}
use Rattle.std.specs.Prelude.{AllPairs, Contains, filter_map}
use Rattle.std.specs.List.{AllZip, list_all, cons_option}
use Rattle.std.specs.Ordering.{is_gt}
use Rattle.std.proofs.lemmas.Bool.{and_parts, and_from}
use Rattle.std.proofs.lemmas.List.Elements.{All-contains, All-cons}
use Rattle.std.proofs.lemmas.List.Kept.{AllPairs-cons}
use Rattle.geo_base.specs.declared.link.Link.{Link}
use Rattle.geo_base.specs.declared.cells.Cell.{Cell}
use Rattle.geo_base.specs.declared.job.Job.{Job}
use Rattle.geo_base.specs.Link.{stacks}
use Rattle.geo_base.specs.Context.{Agree}
use Rattle.geo_base.specs.Order.{context_cmp, same_target}
use Rattle.geo_base.specs.Best.{first_of, IsMet}
use Rattle.geo_base.specs.Job.{job_compat, links_of, IsJobContext, IsCellOf, Fits}
use Rattle.stackable.specs.Partial.{links_at, choices, all_stack, contexts_from, first_context, survivors}
use Rattle.geo_base.proofs.Members.{member_here, member_there, member_cases, no_member, member_of_filter, member_in_filter, member_of_map, member_in_map, member_of_flat_map, member_in_flat_map, pairs_head, pairs_tail}
use Rattle.geo_base.proofs.OrderLaws.{context_cmp_total}
use Rattle.geo_base.proofs.BestFacts.{first_is_member, first_not_after, cases_of}
use Rattle.geo_base.proofs.ContextFacts.{context_tie}
use Rattle.geo_base.proofs.AnswerFacts.{same_target_equiv}
use Rattle.stackable.proofs.UnderFacts.{link_of_job, begins_length}

-- the links of a fitting job are alike
pub links_are_alike : (job : Job) (cells : List (List Cell)) → Fits job cells → Agree (links_of job.pieces cells)
links_are_alike job cells fits = record {
  zooms = λ a b p q e.
      let up : a.tile.z ≤ b.tile.z = fits.zooms a b p q (omega (arith, e)) in
      let down : b.tile.z ≤ a.tile.z = fits.zooms b a q p (omega (arith, e)) in
      omega (arith, up, down);
  scores = fits.scores;
}

all_from_test : {X : Type 0} (p : X → Bool) (xs : List X) → list_all p xs ≡ true → All (λ x. p x ≡ true) xs
all_from_test p [] h = λ k d l. absurd (omega (arith, l))
all_from_test p (x ∷ xs) h = let both = and_parts (p x) (list_all p xs) h in All-cons (λ y. p y ≡ true) x xs both.0 (all_from_test p xs both.1)

test_from_all : {X : Type 0} (p : X → Bool) (xs : List X) → ((x : X) → Contains xs x → p x ≡ true) → list_all p xs ≡ true
test_from_all p [] h = refl
test_from_all p (x ∷ xs) h = and_from (p x) (list_all p xs) (h x (member_here x xs)) (test_from_all p xs (λ y c. h y (member_there x y xs c)))

pub member_in_filter_map : {X Y : Type 0} (f : X → Option Y) (xs : List X) (x : X) (y : Y) → Contains xs x → f x ≡ Some y → Contains (filter_map f xs) y
member_in_filter_map f [] x y c e = absurd (no_member x c)
member_in_filter_map {X} {Y} f (z ∷ xs) x y c e =
    ⊎_elim
    (λ s. let here : f z ≡ Some y = ap f s ∙ e in rw here (member_here y (filter_map f xs)))
    (λ t. by_option (f z) (member_in_filter_map f xs x y t e))
    (member_cases z x xs c)
  where
    by_option : (o : Option Y) → Contains (filter_map f xs) y → Contains (cons_option o (filter_map f xs)) y
    by_option None h = h
    by_option (Some w) h = member_there w y (filter_map f xs) h

pub member_of_filter_map : {X Y : Type 0} (f : X → Option Y) (xs : List X) (y : Y) → Contains (filter_map f xs) y → (x : X) × Contains xs x × (f x ≡ Some y)
member_of_filter_map f [] y c = absurd (no_member y c)
member_of_filter_map {X} {Y} f (z ∷ xs) y c = by_option (f z) refl (member_of_filter_map f xs y) c
  where
    by_option : (o : Option Y) → f z ≡ o → (Contains (filter_map f xs) y → (x : X) × Contains xs x × (f x ≡ Some y)) → Contains (cons_option o (filter_map f xs)) y → (x : X) × Contains (z ∷ xs) x × (f x ≡ Some y)
    by_option None e later h = let r = later h in (r.0, member_there z r.0 xs r.1, r.2)
    by_option (Some w) e later h =
        ⊎_elim
        (λ s. (z, member_here z xs, e ∙ ap (λ v. Some v) s))
        (λ t. let r = later t in (r.0, member_there z r.0 xs r.1, r.2))
        (member_cases w y (filter_map f xs) h)

module _ (job : Job) (cells : List (List Cell)) where
  pub stack_test : (c : List Link) → AllPairs (λ a b. stacks (job_compat job) a b ≡ true) c → all_stack job c ≡ true
  stack_test [] h = refl
  stack_test (a ∷ rest) h =
      and_from (list_all (stacks (job_compat job) a) rest) (all_stack job rest)
      (test_from_all (stacks (job_compat job) a) rest (λ x m. All-contains (λ b. stacks (job_compat job) a b ≡ true) rest x (pairs_head (λ a b. stacks (job_compat job) a b ≡ true) a rest h) m))
      (stack_test rest (pairs_tail (λ a b. stacks (job_compat job) a b ≡ true) a rest h))

  stacked_from_test : (c : List Link) → all_stack job c ≡ true → AllPairs (λ a b. stacks (job_compat job) a b ≡ true) c
  stacked_from_test [] h = λ i j d l m. absurd (omega (arith, m))
  stacked_from_test (a ∷ rest) h =
      let both = and_parts (list_all (stacks (job_compat job) a) rest) (all_stack job rest) h in
      AllPairs-cons (λ a b. stacks (job_compat job) a b ≡ true) a rest (all_from_test (stacks (job_compat job) a) rest both.0) (stacked_from_test rest both.1)

  pub choice_from_begins : (partial : List ℕ) (front : List Link) → AllZip (λ k l. Contains (links_at job cells k) l) partial front → Contains (choices (map (links_at job cells) partial)) front
  choice_from_begins [] [] z = member_here [] []
  choice_from_begins [] (a ∷ front) z = absurd z
  choice_from_begins (k ∷ partial) [] z = absurd z
  choice_from_begins (k ∷ partial) (a ∷ front) z =
      member_in_flat_map (λ x. map (λ c. x ∷ c) (choices (map (links_at job cells) partial))) (links_at job cells k) a (a ∷ front) z.0
      (member_in_map (λ c. a ∷ c) (choices (map (links_at job cells) partial)) front (choice_from_begins partial front z.1))

  begins_from_choice : (partial : List ℕ) (front : List Link) → Contains (choices (map (links_at job cells) partial)) front → AllZip (λ k l. Contains (links_at job cells k) l) partial front
  begins_from_choice [] front h = ⊎_elim (λ e. subst (λ xs. AllZip (λ k l. Contains (links_at job cells k) l) [] xs) e tt) (λ t. absurd (no_member front t)) (member_cases [] front [] h)
  begins_from_choice (k ∷ partial) front h =
      let found = member_of_flat_map (λ x. map (λ c. x ∷ c) (choices (map (links_at job cells) partial))) (links_at job cells k) front h in
      let rest = member_of_map (λ c. found.0 ∷ c) (choices (map (links_at job cells) partial)) front found.2 in
      subst (λ xs. AllZip (λ k l. Contains (links_at job cells k) l) (k ∷ partial) xs) rest.2 (found.1, begins_from_choice partial rest.0 rest.1)

  -- links of pieces are links of the job
  pub chosen_from_begins : Fits job cells → (partial : List ℕ) (front : List Link) → AllZip (λ k l. Contains (links_at job cells k) l) partial front → All (Contains (links_of job.pieces cells)) front
  chosen_from_begins fits [] [] z = λ k d l. absurd (omega (arith, l))
  chosen_from_begins fits [] (a ∷ front) z = absurd z
  chosen_from_begins fits (k ∷ partial) [] z = absurd z
  chosen_from_begins fits (k ∷ partial) (a ∷ front) z =
      All-cons (Contains (links_of job.pieces cells)) a front (link_of_job (λ p c. All (IsCellOf p) c) job.pieces cells k a fits.of_pieces z.0) (chosen_from_begins fits partial front z.1)

  pub exact_from_member : (k : ℕ) (rest : List ℕ) (a : Link) (c : List Link) → Contains (links_at job cells k) a → Contains (contexts_from job cells rest a) c → (b : List Link) × (c ≡ a ∷ b) × AllZip (λ k l. Contains (links_at job cells k) l) (k ∷ rest) (a ∷ b) × AllPairs (λ a b. stacks (job_compat job) a b ≡ true) (a ∷ b)
  exact_from_member k rest a c in_root h =
      let kept = member_of_filter (all_stack job) (map (λ c. a ∷ c) (choices (map (links_at job cells) rest))) c h in
      let m = member_of_map (λ c. a ∷ c) (choices (map (links_at job cells) rest)) c kept.0 in
      (m.0, sym m.2, (in_root, begins_from_choice rest m.0 m.1), stacked_from_test (a ∷ m.0) (subst (λ xs. all_stack job xs ≡ true) (sym m.2) kept.1))

  first_some : (cs : List (List Link)) (c : List Link) → Contains cs c → (d : List Link) × (first_context cs ≡ Some d) × Contains cs d × (is_gt (context_cmp d c) ≡ false)
  first_some [] c h = absurd (no_member c h)
  first_some (x ∷ xs) c h = (first_of context_cmp same_target x xs, refl, first_is_member context_cmp_total same_target_equiv x xs, first_not_after context_cmp_total same_target_equiv x xs c h)

  first_is_one : (cs : List (List Link)) (d : List Link) → first_context cs ≡ Some d → Contains cs d
  first_is_one [] d e = absurd (cc e)
  first_is_one (x ∷ xs) d e = let same : first_of context_cmp same_target x xs ≡ d = cc e in subst (λ z. Contains (x ∷ xs) z) same (first_is_member context_cmp_total same_target_equiv x xs)

  -- each survivor is a context of the job
  pub survivor_is_context : Fits job cells → (k : ℕ) (rest : List ℕ) (c : List Link) → length (k ∷ rest) ≤ 16 → Contains (survivors job cells (k ∷ rest)) c → IsJobContext job cells c
  survivor_is_context fits k rest c few h =
      let found = member_of_filter_map (λ a. first_context (contexts_from job cells rest a)) (links_at job cells k) c h in
      let a = found.0 in
      let exact = exact_from_member k rest a c found.1 (first_is_one (contexts_from job cells rest a) c found.2) in
      subst (IsJobContext job cells) (sym exact.1) (record {
        some = omega arith;
        few = omega (arith, few, begins_length job cells (k ∷ rest) (a ∷ exact.0) exact.2);
        stacked = exact.3;
        chosen = chosen_from_begins fits (k ∷ rest) (a ∷ exact.0) exact.2;
      })

  -- a context of exactly the partial's pieces is met by the survivors
  pub survivors_meet : Fits job cells → (partial : List ℕ) (c : List Link) → 0 < length partial → IsJobContext job cells c → AllZip (λ k l. Contains (links_at job cells k) l) partial c → IsMet context_cmp same_target (survivors job cells partial) c
  survivors_meet fits [] c some context z = absurd (omega (arith, some))
  survivors_meet fits (k ∷ rest) [] some context z = absurd z
  survivors_meet fits (k ∷ rest) (a ∷ b) some context z =
      let in_from : Contains (contexts_from job cells rest a) (a ∷ b) =
      member_in_filter (all_stack job) (map (λ c. a ∷ c) (choices (map (links_at job cells) rest))) (a ∷ b)
      (member_in_map (λ c. a ∷ c) (choices (map (links_at job cells) rest)) b (choice_from_begins rest b z.1))
      (stack_test (a ∷ b) context.stacked) in
      let first = first_some (contexts_from job cells rest a) (a ∷ b) in_from in
      let d = first.0 in
      let exact = exact_from_member k rest a d z.0 first.2 in
      let in_survivors : Contains (survivors job cells (k ∷ rest)) d = member_in_filter_map (λ x. first_context (contexts_from job cells rest x)) (links_at job cells k) a d z.0 first.1 in
      let few : length (k ∷ rest) ≤ 16 = omega (arith, context.few, begins_length job cells (k ∷ rest) (a ∷ b) z) in
      let is_d : IsJobContext job cells d = survivor_is_context fits k rest d few in_survivors in (
        d,
        in_survivors,
        subst (λ xs. same_target xs (a ∷ b) ≡ true) (sym exact.1) (same_target_equiv.refl (a ∷ b)),
        ⊎_elim
            (λ less. inr less)
            (λ t. ⊎_elim
            (λ tie. inl (context_tie (links_of job.pieces cells) (links_are_alike job cells fits) d (a ∷ b) is_d.chosen context.chosen tie))
            (λ greater. let bad : is_gt (context_cmp d (a ∷ b)) ≡ true = rw greater refl in absurd (cc (bad, first.3)))
            t)
            (cases_of (context_cmp d (a ∷ b))),
      )
