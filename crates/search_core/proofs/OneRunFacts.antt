-- The search by one worker ends, and its list is the job's answer.
use Rattle.std.proofs.Common.{◌≡◌, ℕ, zero, suc, ◌+◌, ◌<◌, ◌≤◌, Bool, true, false, not, inl, List, [], ◌∷◌, ◌++◌, length, drop, All, refl, sym, ◌∙◌, ap, subst, arith, append-nil, None}
use Rattle.std.specs.Prelude.{Contains, sum_by, nat_lt, nat_eq, find, Ok}
use Rattle.std.specs.declared.cmp.Ordering.{Ordering}
use Rattle.std.proofs.lemmas.Bool.{lt-ltb}
use Rattle.std.proofs.lemmas.List.{length-map, drop_all}
use Rattle.std.proofs.lemmas.List.Elements.{All-replicate, All-contains, All-append, All-contains_itself}
use Rattle.std.proofs.lemmas.List.Sums.{sum_by-cons}
use Rattle.geo_base.specs.declared.link.Link.{Link}
use Rattle.geo_base.specs.declared.cells.Cell.{Cell}
use Rattle.geo_base.specs.declared.job.Job.{Job}
use Rattle.geo_base.specs.declared.event.Event.{Event}
use Rattle.geo_base.specs.Order.{context_cmp, same_target}
use Rattle.geo_base.specs.Best.{first_of, others, best_of}
use Rattle.geo_base.specs.Job.{IsJob, IsJobContext, Fits, links_of, job_best}
use Rattle.stackable.specs.Partial.{numbers_below, piece_numbers, partials, roots, root_cmp, IsPartial}
use Rattle.search_core.specs.Machine.{WorkerState, State, idle_worker, first_state, worker_at, worker_of, happens, run, is_done, answer_of, verdict_by, Found, replayed, replayed_by, turn, turns, after, one_run}
use Rattle.search_core.specs.Covers.{IsTop, IsGoodWorker, IsGood}
use Rattle.geo_base.proofs.Members.{member_here, member_there}
use Rattle.geo_base.proofs.BestFacts.{best_is_one}
use Rattle.geo_base.proofs.OrderLaws.{context_cmp_total}
use Rattle.geo_base.proofs.ContextFacts.{context_tie}
use Rattle.geo_base.proofs.AnswerFacts.{same_target_equiv}
use Rattle.stackable.proofs.SurvivorFacts.{links_are_alike}
use Rattle.stackable.proofs.TreeFacts.{below_number}
use Rattle.search_core.proofs.GoodFacts.{best_of_contexts, idle_is_good}
use Rattle.search_core.proofs.SearchFacts.{run_is_good, done_has_answer}
use Rattle.search_core.specs.Alone.{alone, tree_size, turns_left, last_state}
use Rattle.search_core.proofs.TreeSizes.{trees_are_all}
use Rattle.search_core.proofs.StepFacts.{IsStep, with_stack, Next, Rests, Steps, next_is, none_left}

sum_one_more : {X : Type 0} (f : X → ℕ) (xs : List X) → sum_by (λ x. 1 + f x) xs ≡ length xs + sum_by f xs
sum_one_more f [] = refl
sum_one_more f (x ∷ xs) = omega (arith, sum_by-cons (λ y. 1 + f y) x xs, sum_by-cons f x xs, sum_one_more f xs)

pub best_few : {X : Type 0} (cmp : X → X → Ordering) (same : X → X → Bool) (k : ℕ) (xs : List X) → length (best_of cmp same k xs) ≤ k
best_few cmp same zero xs = omega arith
best_few cmp same (suc k) [] = omega arith
best_few cmp same (suc k) (x ∷ xs) = let rest = best_few cmp same k (others cmp same (first_of cmp same x xs) (x ∷ xs)) in omega (arith, rest)

pub none_passes : {X : Type 0} (p : X → Bool) (xs : List X) → ((x : X) → Contains xs x → p x ≡ false) → find p xs ≡ None
none_passes p [] h = refl
none_passes p (x ∷ xs) h = rw (h x (member_here x xs)) (none_passes p xs (λ y m. h y (member_there x y xs m)))

-- no turn is left of an idle worker with no root left
pub nothing_left : (job : Job) (n : ℕ) (stack : List (List ℕ)) → stack ≡ [] → length (roots job) ≤ n → turns_left job n stack ≡ 0
nothing_left job n stack idle past =
    let sum : sum_by (λ r. 1 + tree_size job r) (drop n (roots job)) ≡ 0 = ap (λ rs. sum_by (λ r. 1 + tree_size job r) rs) (drop_all n (roots job) past) in
    let both : turns_left job n [] ≡ 0 = omega (arith, sum) in
    subst (λ st. turns_left job n st ≡ 0) (sym idle) both

module _ (job : Job) (cells : List (List Cell)) where
  pub after_both : (xs ys : List Event) (s : State) → after job cells (xs ++ ys) s ≡ after job cells ys (after job cells xs s)
  after_both [] ys s = refl
  after_both (e ∷ xs) ys s = after_both xs ys (happens job cells s e)

  -- no turn after the last
  pub turns_rest : (m : ℕ) (s : State) → turn job s ≡ [] → turns job cells m s ≡ []
  turns_rest zero s e = refl
  turns_rest (suc m) s e = ap (λ events. events ++ turns job cells m (after job cells events s)) e ∙ turns_rest m s e

  pub turns_step : (m n f : ℕ) (w : WorkerState) (k g : ℕ) (v : WorkerState) (events : List Event) → IsStep job cells n f w k g v events → turns job cells (suc m) (alone n f w) ≡ events ++ turns job cells m (alone k g v)
  turns_step m n f w k g v events step = ap (λ es. es ++ turns job cells m (after job cells es (alone n f w))) step.turn_is ∙ ap (λ s. events ++ turns job cells m s) step.leads

  module _ (fine : IsJob job) where
    -- with turns enough, the one worker comes to an end
    pub record IsEnd (m n f : ℕ) (w : WorkerState) : Type 0 where
      pub next : ℕ
      pub floor : ℕ
      pub worker : WorkerState
      pub goes : (place : ℕ) → run job cells place (turns job cells m (alone n f w)) (alone n f w) ≡ Ok (alone next floor worker)
      pub leads : after job cells (turns job cells m (alone n f w)) (alone n f w) ≡ alone next floor worker
      pub idle : worker.stack ≡ []
      pub past : length (roots job) ≤ next
      pub its_own : All (λ e. worker_of e < 8) (turns job cells m (alone n f w))

    at_rest : (m n f : ℕ) (w : WorkerState) → w.stack ≡ [] → length (roots job) ≤ n → turns job cells m (alone n f w) ≡ [] → IsEnd m n f w
    at_rest m n f w idle past none = record {
      next = n;
      floor = f;
      worker = w;
      goes = λ place. ap (λ es. run job cells place es (alone n f w)) none;
      leads = ap (λ es. after job cells es (alone n f w)) none;
      idle = idle;
      past = past;
      its_own = subst (λ es. All (λ e. worker_of e < 8) es) (sym none) (λ i d l. absurd (omega (arith, l)));
    }

    pub ends : (m n f : ℕ) (w : WorkerState) → All (IsPartial job) w.stack → turns_left job n w.stack ≤ m → IsEnd m n f w
    ends zero n f w are enough = let none = none_left job cells fine n w.stack enough in at_rest zero n f w none.0 none.1 refl
    ends (suc m) n f w are enough = elim (next_is job cells fine n f w are) [
      | Rests idle past none ↦ at_rest (suc m) n f w idle past (turns_rest (suc m) (alone n f w) none)
      | Steps k g v events step ↦
          let rest = ends m k g v step.partials (omega (arith, step.fewer, enough)) in
          let is = turns_step m n f w k g v events step in
          record {
            next = rest.next;
            floor = rest.floor;
            worker = rest.worker;
            goes = λ place. ap (λ es. run job cells place es (alone n f w)) is ∙ (step.goes place (turns job cells m (alone k g v)) ∙ rest.goes (place + length events));
            leads = ap (λ es. after job cells es (alone n f w)) is ∙ (after_both events (turns job cells m (alone k g v)) (alone n f w) ∙ (ap (λ s. after job cells (turns job cells m (alone k g v)) s) step.leads ∙ rest.leads));
            idle = rest.idle;
            past = rest.past;
            its_own = subst (λ es. All (λ e. worker_of e < 8) es) (sym is) (All-append (λ e. worker_of e < 8) events (turns job cells m (alone k g v)) step.its_own rest.its_own);
          }
    ]

    -- the turns of the search are enough
    pub enough_turns : turns_left job 0 [] ≤ length job.pieces + length (partials job)
    enough_turns =
        let few : length (roots job) ≤ length job.pieces = omega (arith, length-map (best_of (root_cmp job) nat_eq (length job.pieces) (piece_numbers job)) (λ k. k ∷ []), best_few (root_cmp job) nat_eq (length job.pieces) (piece_numbers job)) in
        omega (arith, few, sum_one_more (tree_size job) (roots job), trees_are_all job)

    pub one_end : IsEnd (length job.pieces + length (partials job)) 0 0 idle_worker
    one_end = ends (length job.pieces + length (partials job)) 0 0 idle_worker (λ i d l. absurd (omega (arith, l))) enough_turns

    -- an idle worker with no root left has done every root
    pub all_done : (n f : ℕ) (w : WorkerState) → w.stack ≡ [] → length (roots job) ≤ n → (k : ℕ) → k < length (roots job) → is_done job (alone n f w) k ≡ true
    all_done n f w idle past k h =
        let below : nat_lt k n ≡ true = lt-ltb k n (omega (arith, past, h)) in
        subst (λ st. is_done job (alone n f (with_stack w st)) k ≡ true) (sym idle) (rw below refl)

    -- each event of the search may happen, and it ends in its last state
    pub one_run_goes : run job cells 0 (one_run job cells) first_state ≡ Ok (last_state job cells)
    one_run_goes = one_end.goes 0 ∙ ap (λ s. Ok s) (sym one_end.leads)

    pub last_is_done : (k : ℕ) → k < length (roots job) → is_done job (last_state job cells) k ≡ true
    last_is_done k h = subst (λ s. is_done job s k ≡ true) (sym one_end.leads) (all_done one_end.next one_end.floor one_end.worker one_end.idle one_end.past k h)

    pub last_rests : turn job (last_state job cells) ≡ []
    last_rests = subst (λ s. turn job s ≡ []) (sym one_end.leads) (rests (next_is job cells fine one_end.next one_end.floor one_end.worker (subst (λ st. All (IsPartial job) st) (sym one_end.idle) (λ i d l. absurd (omega (arith, l))))))
      where
        rests : Next job cells fine one_end.next one_end.floor one_end.worker → turn job (alone one_end.next one_end.floor one_end.worker) ≡ []
        rests (Rests idle past none) = none
        rests (Steps k g v events step) =
            let none : turns_left job one_end.next one_end.worker.stack ≡ 0 = nothing_left job one_end.next one_end.worker.stack one_end.idle one_end.past in
            absurd (omega (arith, step.fewer, none))

  module _ (fits : Fits job cells) where
    pub first_is_good : IsGood job cells first_state
    first_is_good = record { workers = All-replicate (IsGoodWorker job cells) 8 idle_worker (idle_is_good job cells fits); floor = inl refl; claimed = λ k root h e. absurd (omega (arith, h)) }

    pub last_is_good : IsGood job cells (last_state job cells)
    last_is_good = run_is_good job cells fits (one_run job cells) 0 first_state (last_state job cells) (one_end fits.is_job).its_own (one_run_goes fits.is_job) first_is_good

    pub last_has_answer : answer_of (last_state job cells) ≡ job_best job cells
    last_has_answer = done_has_answer job cells fits (last_state job cells) last_is_good (last_is_done fits.is_job)

    pub one_run_finds : replayed job cells (one_run job cells) ≡ Found (job_best job cells)
    one_run_finds =
        ap (λ r. replayed_by job r) (one_run_goes fits.is_job)
        ∙ (ap (λ o. verdict_by o (answer_of (last_state job cells)))
        (none_passes (λ k. not (is_done job (last_state job cells) k)) (numbers_below (length (roots job))) (λ k h. ap not (last_is_done fits.is_job k (below_number (length (roots job)) k h))))
        ∙ ap (λ xs. Found xs) last_has_answer)

    -- the best of a worker's list is the list
    pub top_is_best : (top : List (List Link)) → IsTop job cells top → best_of context_cmp same_target 40 top ≡ top
    top_is_best top is =
        let are : (c : List Link) → Contains top c → IsJobContext job cells c = λ c h. All-contains (IsJobContext job cells) top c is.contexts h in
        best_is_one context_cmp_total same_target_equiv
        (λ a b p q e. context_tie (links_of job.pieces cells) (links_are_alike job cells fits) a b (are a p).chosen (are b q).chosen e)
        (best_of context_cmp same_target 40 top) top
        (best_of_contexts job cells fits top are)
        (record { few = is.few; chosen = All-contains_itself top; in_order = is.in_order; one_each = is.one_each; complete = λ c h. inl (c, h, same_target_equiv.refl c, inl refl) })

    -- where one worker worked alone, the answer is its list
    pub alone_answer : (n f : ℕ) (w : WorkerState) → IsGood job cells (alone n f w) → answer_of (alone n f w) ≡ w.top
    alone_answer n f w good = ap (λ xs. best_of context_cmp same_target 40 xs) (append-nil w.top) ∙ top_is_best w.top (good.workers 0 idle_worker (omega arith)).top

    pub last_top : (worker_at (last_state job cells) 0).top ≡ job_best job cells
    last_top =
        let end = one_end fits.is_job in
        let good : IsGood job cells (alone end.next end.floor end.worker) = subst (IsGood job cells) end.leads last_is_good in
        let answer : answer_of (alone end.next end.floor end.worker) ≡ job_best job cells = subst (λ s. answer_of s ≡ job_best job cells) end.leads last_has_answer in
        ap (λ s. (worker_at s 0).top) end.leads ∙ (sym (alone_answer end.next end.floor end.worker good) ∙ answer)
