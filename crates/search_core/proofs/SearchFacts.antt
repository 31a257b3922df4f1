-- Whatever the schedule, a search that is done has the job's answer.
use Rattle.std.proofs.Common.{◌≡◌, ℕ, zero, suc, ◌+◌, ◌<◌, ◌≤◌, max, Bool, true, false, not, cond, ◌⊎◌, inl, inr, ⊎_elim, List, [], ◌∷◌, length, get_or, set, replicate, All, refl, sym, ◌∙◌, ap, subst, arith, Option, Some, None, slice_get, length-set, get_or-set_same, get_or-set_other, is_none}
use Rattle.std.specs.Prelude.{Contains, nat_lt, flat_map, find, Result, Ok, Err}
use Rattle.std.specs.List.{list_any}
use Rattle.std.proofs.lemmas.Bool.{cases_Bool, ltb-true, cases_lt, cases_eq, and_parts, eq-eqb, or_left, or_right}
use Rattle.std.proofs.lemmas.List.Elements.{All-contains, All-head, All-tail, All-set, Contains-get_or, Contains-append_left, Contains-append_right}
use Rattle.geo_base.specs.declared.link.Link.{Link}
use Rattle.geo_base.specs.declared.cells.Cell.{Cell}
use Rattle.geo_base.specs.declared.job.Job.{Job}
use Rattle.geo_base.specs.declared.event.Event.{Event}
use Rattle.geo_base.specs.declared.event.Event.TheVariants.{Claim, Look, Cut, Open, Raise}
use Rattle.geo_base.specs.Order.{key_of, context_cmp, same_target}
use Rattle.geo_base.specs.Best.{IsSettled, IsBest}
use Rattle.geo_base.specs.Answer.{IsAnswer}
use Rattle.geo_base.specs.Job.{job_compat, links_of, IsJobContext, IsSound, Reaches, Fits, job_best}
use Rattle.stackable.specs.Partial.{piece_numbers, numbers_below, roots, IsPartial, IsUnder}
use Rattle.search_core.specs.Machine.{WorkerState, State, idle_worker, first_state, worker_at, top_partial, claimed, looked, cut, opened, opened_at, with_worker, worker_of, is_allowed, happens, run, is_of_root, is_done, first_left, answer_of, verdict_by, Found, replayed, replayed_by}
use Rattle.top_list.specs.Merged.{floor_of}
use Rattle.search_core.specs.Covers.{On_stack, In_list, Below_floor, IsGoodWorker, IsGood}
use Rattle.geo_base.proofs.Members.{member_here, member_cases, no_member, member_of_flat_map, member_in_flat_map, all_from_members}
use Rattle.geo_base.proofs.OrderLaws.{context_cmp_total}
use Rattle.geo_base.proofs.AnswerFacts.{same_target_equiv, answer_is_one, best_is_answer}
use Rattle.geo_base.proofs.SettledFacts.{settled_by_many, settled_through}
use Rattle.search_core.proofs.FloorFacts.{floor_of_is_sound, before_by_key}
use Rattle.stackable.proofs.UnderFacts.{piece_of_link, number_below}
use Rattle.stackable.proofs.SurvivorFacts.{links_are_alike}
use Rattle.stackable.proofs.TreeFacts.{root_is_partial, piece_is_root, child_is_partial, below_number}
use Rattle.search_core.proofs.GoodFacts.{sound_max, best_of_contexts, idle_is_good, worker_is_good, looked_is_good, cut_is_good, claimed_is_good, opened_is_good}

none_from_test : {X : Type 0} (o : Option X) → is_none o ≡ true → o ≡ None
none_from_test None e = refl
none_from_test (Some x) e = absurd (cc e)

none_found : {X : Type 0} (p : X → Bool) (xs : List X) → find p xs ≡ None → (x : X) → Contains xs x → p x ≡ false
none_found p [] e x h = absurd (no_member x h)
none_found p (y ∷ xs) e x h =
    ⊎_elim
    (λ yes. let bad : Some y ≡ None = subst (λ b. cond b (Some y) (find p xs) ≡ None) yes e in absurd (cc bad))
    (λ no. ⊎_elim
    (λ s. subst (λ z. p z ≡ false) s no)
    (λ t. none_found p xs (subst (λ b. cond b (Some y) (find p xs) ≡ None) no e) x t)
    (member_cases y x xs h))
    (cases_Bool (p y))

any_member : {X : Type 0} (p : X → Bool) (xs : List X) (x : X) → Contains xs x → p x ≡ true → list_any p xs ≡ true
any_member p [] x h e = absurd (no_member x h)
any_member p (y ∷ xs) x h e =
    ⊎_elim
    (λ s. or_left (p y) (list_any p xs) (ap p s ∙ e))
    (λ t. or_right (p y) (list_any p xs) (any_member p xs x t e))
    (member_cases y x xs h)

not_from : (b : Bool) → not b ≡ false → b ≡ true
not_from true e = refl
not_from false e = absurd (cc e)

not_to : (b : Bool) → not b ≡ true → b ≡ false
not_to true e = absurd (cc e)
not_to false e = refl

module _ (job : Job) (cells : List (List Cell)) (fits : Fits job cells) where
  -- a state with another worker of the same claims
  with_same_claims : (s : State) (w : ℕ) (v : WorkerState) → IsGood job cells s → w < length s.workers → IsGoodWorker job cells v → v.claims ≡ (worker_at s w).claims → IsGood job cells (with_worker s w v)
  with_same_claims s w v good inside is same = record {
    workers = All-set (IsGoodWorker job cells) s.workers w v is good.workers;
    floor = good.floor;
    claimed = λ k root h e. let old = good.claimed k root h e in (
      old.0,
      omega (arith, old.1, length-set s.workers w v),
      ⊎_elim
          (λ here. subst (λ (x : WorkerState). Contains x.claims k) (sym (ap (λ n. get_or (set s.workers w v) n idle_worker) here ∙ get_or-set_same s.workers w v idle_worker inside)) (subst (λ cs. Contains cs k) (sym same) (subst (λ n. Contains (worker_at s n).claims k) here old.2)))
          (λ apart. subst (λ (x : WorkerState). Contains x.claims k) (sym (get_or-set_other s.workers w old.0 v idle_worker apart)) old.2)
          (cases_eq old.0 w),
    );
  }

  opened_claims : (w : WorkerState) → (opened job cells w).claims ≡ w.claims
  opened_claims w = by_top (top_partial w.stack)
    where
      by_top : (o : Option (List ℕ)) → (opened_at job cells w o).claims ≡ w.claims
      by_top None = refl
      by_top (Some p) = refl

  claims_more : (w : WorkerState) (k j : ℕ) (o : Option (List ℕ)) → Contains w.claims j → Contains (claimed w k o).claims j
  claims_more w k j None h = h
  claims_more w k j (Some r) h = Contains-append_left w.claims (k ∷ []) j h

  claims_new : (w : WorkerState) (k : ℕ) (o : Option (List ℕ)) (r : List ℕ) → o ≡ Some r → Contains (claimed w k o).claims k
  claims_new w k None r e = absurd (cc e)
  claims_new w k (Some q) r e = Contains-append_right w.claims (k ∷ []) k (member_here k [])

  -- each event that may happen keeps a good state good
  pub good_kept : (s : State) (e : Event) → worker_of e < length s.workers → is_allowed job s e ≡ true → IsGood job cells s → IsGood job cells (happens job cells s e)
  good_kept s (Claim w) inside may good =
      let old = worker_at s w in
      let root = slice_get (roots job) s.next in
      let v = claimed old s.next root in
      record {
        workers = All-set (IsGoodWorker job cells) s.workers w v (claimed_is_good job cells fits old s.next root refl (none_from_test (top_partial old.stack) may) (λ r f. root_is_partial job fits.is_job s.next r f) (worker_is_good job cells fits s w good.workers)) good.workers;
        floor = good.floor;
        claimed = λ k r h e.
            ⊎_elim
            (λ less. let before = good.claimed k r less e in (
              before.0,
              omega (arith, before.1, length-set s.workers w v),
              ⊎_elim
                  (λ here. subst (λ (x : WorkerState). Contains x.claims k) (sym (ap (λ n. get_or (set s.workers w v) n idle_worker) here ∙ get_or-set_same s.workers w v idle_worker inside)) (claims_more old s.next k root (subst (λ n. Contains (worker_at s n).claims k) here before.2)))
                  (λ apart. subst (λ (x : WorkerState). Contains x.claims k) (sym (get_or-set_other s.workers w before.0 v idle_worker apart)) before.2)
                  (cases_eq before.0 w),
            ))
            (λ more. let same : s.next ≡ k = omega (arith, h, more) in (
              w,
              omega (arith, inside, length-set s.workers w v),
              subst (λ (x : WorkerState). Contains x.claims k) (sym (get_or-set_same s.workers w v idle_worker inside))
                  (subst (λ n. Contains v.claims n) same (claims_new old s.next root r (ap (λ n. slice_get (roots job) n) same ∙ e))),
            ))
            (cases_lt k s.next);
      }
  good_kept s (Look w) inside may good = with_same_claims s w (looked (worker_at s w) s.floor) good inside (looked_is_good job cells fits (worker_at s w) s.floor good.floor (worker_is_good job cells fits s w good.workers)) refl
  good_kept s (Cut w) inside may good = with_same_claims s w (cut (worker_at s w)) good inside (cut_is_good job cells fits (worker_at s w) may (worker_is_good job cells fits s w good.workers)) refl
  good_kept s (Open w) inside may good = with_same_claims s w (opened job cells (worker_at s w)) good inside (opened_is_good job cells fits (worker_at s w) (child_is_partial job fits.is_job) (worker_is_good job cells fits s w good.workers)) (opened_claims (worker_at s w))
  good_kept s (Raise w) inside may good = record {
    workers = good.workers;
    floor = sound_max job cells fits s.floor (floor_of (worker_at s w).top) good.floor (floor_of_is_sound job cells (worker_at s w).top (worker_is_good job cells fits s w good.workers).top);
    claimed = good.claimed;
  }

  workers_stay : (s : State) (e : Event) → length (happens job cells s e).workers ≡ length s.workers
  workers_stay s (Claim w) = length-set s.workers w (claimed (worker_at s w) s.next (slice_get (roots job) s.next))
  workers_stay s (Look w) = length-set s.workers w (looked (worker_at s w) s.floor)
  workers_stay s (Cut w) = length-set s.workers w (cut (worker_at s w))
  workers_stay s (Open w) = length-set s.workers w (opened job cells (worker_at s w))
  workers_stay s (Raise w) = refl

  -- a run of events keeps a good state good
  pub run_is_good : (events : List Event) (place : ℕ) (s t : State) → All (λ e. worker_of e < length s.workers) events → run job cells place events s ≡ Ok t → IsGood job cells s → IsGood job cells t
  run_is_good [] place s t inside is good = let same : s ≡ t = cc is in subst (IsGood job cells) same good
  run_is_good (e ∷ events) place s t inside is good =
      ⊎_elim
      (λ may. run_is_good events (place + 1) (happens job cells s e) t
      (λ k d l. omega (arith, All-tail (λ x. worker_of x < length s.workers) e events inside k d l, workers_stay s e))
      (subst (λ b. cond b (run job cells (place + 1) events (happens job cells s e)) (Err place) ≡ Ok t) may is)
      (good_kept s e (All-head (λ x. worker_of x < length s.workers) e events inside) may good))
      (λ may_not. let bad : Err place ≡ Ok t = subst (λ b. cond b (run job cells (place + 1) events (happens job cells s e)) (Err place) ≡ Ok t) may_not is in absurd (cc bad))
      (cases_Bool (is_allowed job s e))

  first_is_good : IsGood job cells first_state
  first_is_good = record {
    workers = all_from_members (IsGoodWorker job cells) (replicate 8 idle_worker) (λ w h. idle_member 8 w h);
    floor = inl refl;
    claimed = λ k root h e. absurd (omega (arith, h));
  }
    where
      idle_member : (n : ℕ) (w : WorkerState) → Contains (replicate n idle_worker) w → IsGoodWorker job cells w
      idle_member zero w h = absurd (no_member w h)
      idle_member (suc n) w h = ⊎_elim (λ e. subst (IsGoodWorker job cells) e (idle_is_good job cells fits)) (λ t. idle_member n w t) (member_cases idle_worker w (replicate n idle_worker) h)

  -- a sound floor that no worker's is above
  highest : (ws : List WorkerState) → All (IsGoodWorker job cells) ws → (f : ℕ) × IsSound job cells f × ((w : WorkerState) → Contains ws w → w.seen ≤ f)
  highest [] good = (0, inl refl, λ w h. absurd (no_member w h))
  highest (v ∷ ws) good =
      let rest = highest ws (All-tail (IsGoodWorker job cells) v ws good) in (
        max v.seen rest.0,
        sound_max job cells fits v.seen rest.0 (All-head (IsGoodWorker job cells) v ws good).seen rest.1,
        λ w h. ⊎_elim (λ (e : v ≡ w). let same : v.seen ≡ w.seen = ap (λ (x : WorkerState). x.seen) e in omega (arith, same)) (λ t. omega (arith, rest.2 w t)) (member_cases v w ws h),
      )

  module _ (s : State) (good : IsGood job cells s) (done : (k : ℕ) → k < length (roots job) → is_done job s k ≡ true) where
    no_partial : (w : WorkerState) (p : List ℕ) → Contains s.workers w → Contains w.stack p → ⊥
    no_partial w [] in_state in_stack = let is : IsPartial job [] = All-contains (IsPartial job) w.stack [] (All-contains (IsGoodWorker job cells) s.workers w good.workers in_state).stack in_stack in omega (arith, is.some)
    no_partial w (j ∷ rest) in_state in_stack =
        let is : IsPartial job (j ∷ rest) = All-contains (IsPartial job) w.stack (j ∷ rest) (All-contains (IsGoodWorker job cells) s.workers w good.workers in_state).stack in_stack in
        let inside : j < length job.pieces = below_number (length job.pieces) j (All-head (Contains (piece_numbers job)) j rest is.chosen) in
        let root = piece_is_root job fits.is_job j inside in
        let parts = and_parts (nat_lt root.0 s.next) (not (list_any (λ v. list_any (is_of_root (slice_get (roots job) root.0)) v.stack) s.workers)) (done root.0 root.1) in
        let of_root : is_of_root (slice_get (roots job) root.0) (j ∷ rest) ≡ true = rw root.2 (eq-eqb j j refl) in
        let found : list_any (λ v. list_any (is_of_root (slice_get (roots job) root.0)) v.stack) s.workers ≡ true =
        any_member (λ (v : WorkerState). list_any (is_of_root (slice_get (roots job) root.0)) v.stack) s.workers w in_state (any_member (is_of_root (slice_get (roots job) root.0)) w.stack (j ∷ rest) in_stack of_root) in
        absurd (cc (found, not_to (list_any (λ v. list_any (is_of_root (slice_get (roots job) root.0)) v.stack) s.workers) parts.1))

    tops_are : (c : List Link) → Contains (flat_map (λ w. w.top) s.workers) c → IsJobContext job cells c
    tops_are c h = let m = member_of_flat_map (λ (w : WorkerState). w.top) s.workers c h in
        All-contains (IsJobContext job cells) m.0.top c (All-contains (IsGoodWorker job cells) s.workers m.0 good.workers m.1).top.contexts m.2

    best : IsBest context_cmp same_target 40 (Contains (flat_map (λ w. w.top) s.workers)) (answer_of s)
    best = best_of_contexts job cells fits (flat_map (λ w. w.top) s.workers) tops_are

    -- a context of the job is under a root
    root_of : (c : List Link) → IsJobContext job cells c → (k : ℕ) × (r : List ℕ) × (k < length (roots job)) × (slice_get (roots job) k ≡ Some r) × IsUnder job cells r c
    root_of [] is = absurd (omega (arith, is.some))
    root_of (a ∷ rest) is =
        let found = piece_of_link job.pieces cells a (All-head (Contains (links_of job.pieces cells)) a rest is.chosen) in
        let root = piece_is_root job fits.is_job found.0 found.1 in
        (root.0, found.0 ∷ [], root.1, root.2, record { context = is; front = a ∷ []; rest = rest; parts = refl; begins = (found.2, tt) })

    -- each context is settled, or its key is below a floor that some worker has seen
    settled_or_low : (c : List Link) → IsJobContext job cells c → IsSettled context_cmp same_target 40 (answer_of s) c ⊎ ((w : WorkerState) × Contains s.workers w × (key_of c < w.seen))
    settled_or_low c is =
        let root = root_of c is in
        let parts = and_parts (nat_lt root.0 s.next) (not (list_any (λ v. list_any (is_of_root (slice_get (roots job) root.0)) v.stack) s.workers)) (done root.0 root.2) in
        let claim = good.claimed root.0 root.1 (ltb-true root.0 s.next parts.0) root.3 in
        let w = worker_at s claim.0 in
        let in_state : Contains s.workers w = Contains-get_or s.workers claim.0 idle_worker claim.1 in
        let fine : IsGoodWorker job cells w = worker_is_good job cells fits s claim.0 good.workers in
        elim (fine.covered root.0 root.1 claim.2 root.3 c root.4) [
          | On_stack p m u ↦ absurd (no_partial w p in_state m)
          | In_list m ↦ inl (settled_through context_cmp_total same_target_equiv 40 (answer_of s) w.top c best.few fine.top.one_each (λ x h. best.complete x (member_in_flat_map (λ (v : WorkerState). v.top) s.workers w x in_state h)) m)
          | Below_floor less ↦ inr (w, in_state, less)
        ]

    all_settled : (c : List Link) → IsJobContext job cells c → IsSettled context_cmp same_target 40 (answer_of s) c
    all_settled c is =
        ⊎_elim
        (λ settled. settled)
        (λ low.
        let top = highest s.workers good.workers in
        let under : key_of c < top.0 = omega (arith, low.2, top.2 low.0 low.1) in
        ⊎_elim
        (λ (none : top.0 ≡ 0). absurd (omega (arith, under, none)))
        (λ (reach : Reaches job cells top.0).
        settled_by_many context_cmp_total same_target_equiv 40 (answer_of s) reach.some c best.few reach.forty reach.one_each
        (λ x h. ⊎_elim
        (λ settled. settled)
        (λ lower. let high : top.0 ≤ key_of x = All-contains (λ d. top.0 ≤ key_of d) reach.some x reach.high h in absurd (omega (arith, high, lower.2, top.2 lower.0 lower.1)))
        (settled_or_low x (All-contains (IsJobContext job cells) reach.some x reach.contexts h)))
        (λ x h. let high : top.0 ≤ key_of x = All-contains (λ d. top.0 ≤ key_of d) reach.some x reach.high h in before_by_key x c (omega (arith, high, under))))
        top.1)
        (settled_or_low c is)

    -- where every root is done, the merge of the workers' lists is the job's answer
    pub done_has_answer : answer_of s ≡ job_best job cells
    done_has_answer =
        let alike = links_are_alike job cells fits in
        let is : IsAnswer (job_compat job) (links_of job.pieces cells) (answer_of s) = record {
          few = best.few;
          chosen = all_from_members (IsJobContext job cells) (answer_of s) (λ c h. tops_are c (All-contains (Contains (flat_map (λ w. w.top) s.workers)) (answer_of s) c best.chosen h));
          in_order = best.in_order;
          one_each = best.one_each;
          complete = all_settled;
        } in
        answer_is_one (job_compat job) (links_of job.pieces cells) alike (answer_of s) (job_best job cells) is (best_is_answer (job_compat job) (links_of job.pieces cells) alike)

  -- a replay that finds an answer finds the job's
  pub found_is_best : (events : List Event) (answer : List (List Link)) → All (λ e. worker_of e < 8) events → replayed job cells events ≡ Found answer → answer ≡ job_best job cells
  found_is_best events answer inside is = by_run (run job cells 0 events first_state) refl is
    where
      by_left : (s : State) → IsGood job cells s → (o : Option ℕ) → first_left job s ≡ o → verdict_by o (answer_of s) ≡ Found answer → answer ≡ job_best job cells
      by_left s good None left is =
          let same : answer_of s ≡ answer = cc is in
          sym same ∙ done_has_answer s good (λ k h. not_from (is_done job s k) (none_found (λ i. not (is_done job s i)) (numbers_below (length (roots job))) left k (number_below (length (roots job)) k h)))
      by_left s good (Some k) left is = absurd (cc is)

      by_run : (r : Result State ℕ) → run job cells 0 events first_state ≡ r → replayed_by job r ≡ Found answer → answer ≡ job_best job cells
      by_run (Ok s) e is = by_left s (run_is_good events 0 first_state s inside e first_is_good) (first_left job s) refl is
      by_run (Err place) e is = absurd (cc is)
