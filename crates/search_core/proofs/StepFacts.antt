-- What one turn of one worker does.
use Rattle.std.proofs.Common.{◌≡◌, ℕ, zero, suc, ◌+◌, ◌<◌, ◌≤◌, max, true, false, ⊎_elim, List, [], ◌∷◌, ◌++◌, length, drop, All, refl, sym, ◌∙◌, ap, subst, arith, Option, Some, None, slice_get}
use Rattle.std.specs.Prelude.{sum_by, nat_lt, nat_le, Err}
use Rattle.std.proofs.lemmas.Bool.{cases_Bool, cases_lt, cond-true, cond-false, ltb-false, lt-ltb, le-ltb, le-leb}
use Rattle.std.proofs.lemmas.List.Elements.{All-cons, All-head, All-tail, All-append}
use Rattle.std.proofs.lemmas.List.Sums.{sum_by-cons, sum_by-append}
use Rattle.geo_base.specs.declared.link.Link.{Link}
use Rattle.geo_base.specs.declared.cells.Cell.{Cell}
use Rattle.geo_base.specs.declared.job.Job.{Job}
use Rattle.geo_base.specs.declared.event.Event.{Event}
use Rattle.geo_base.specs.declared.event.Event.TheVariants.{Claim, Look, Cut, Open, Raise}
use Rattle.geo_base.specs.Job.{IsJob}
use Rattle.stackable.specs.Partial.{candidates, children, bound, roots, survivors, IsPartial}
use Rattle.search_core.specs.Machine.{WorkerState, State, worker_of, children_of, is_low, claimed, looked, cut, opened, is_allowed, happens, run, turn, after}
use Rattle.top_list.specs.Merged.{floor_of}
use Rattle.geo_base.proofs.Members.{member_of_map, all_from_members}
use Rattle.stackable.proofs.TreeFacts.{root_is_partial, child_is_partial}
use Rattle.search_core.specs.Alone.{alone, tree_size, turns_left}
use Rattle.search_core.proofs.ClaimFacts.{got_none}
use Rattle.search_core.proofs.TreeSizes.{tree_size_is}

-- a turn of one worker: its events may happen, and it leads to a state in which fewer turns are left
pub record IsStep (job : Job) (cells : List (List Cell)) (n f : ℕ) (w : WorkerState) (k g : ℕ) (v : WorkerState) (events : List Event) : Type 0 where
  pub turn_is : turn job (alone n f w) ≡ events
  pub leads : after job cells events (alone n f w) ≡ alone k g v
  pub goes : (place : ℕ) (more : List Event) → run job cells place (events ++ more) (alone n f w) ≡ run job cells (place + length events) more (alone k g v)
  pub partials : All (IsPartial job) v.stack
  pub fewer : turns_left job k v.stack + 1 ≤ turns_left job n w.stack
  pub its_own : All (λ e. worker_of e < 8) events

-- the floor after the worker raised it
abbrev pub raised : ℕ → WorkerState → ℕ
raised f w = max f (floor_of w.top)

abbrev pub with_stack : WorkerState → List (List ℕ) → WorkerState
with_stack w st = record { claims = w.claims; stack = st; seen = w.seen; top = w.top }

drop_here : {X : Type 0} (xs : List X) (n : ℕ) (x : X) → slice_get xs n ≡ Some x → drop n xs ≡ x ∷ drop (suc n) xs
drop_here [] n x e = absurd (cc e)
drop_here (y ∷ ys) zero x e = let same : y ≡ x = cc e in ap (λ z. z ∷ ys) same
drop_here (y ∷ ys) (suc n) x e = drop_here ys n x e

module _ (job : Job) (cells : List (List Cell)) (fine : IsJob job) where
  one_event : (e : Event) (more : List Event) (place : ℕ) (s : State) → is_allowed job s e ≡ true → run job cells place (e ∷ more) s ≡ run job cells (place + 1) more (happens job cells s e)
  one_event e more place s may = cond-true (is_allowed job s e) (run job cells (place + 1) more (happens job cells s e)) (Err place) may

  three_events : (e : Event) (more : List Event) (place n f : ℕ) (w : WorkerState) (k g : ℕ) (v : WorkerState)
      → is_allowed job (alone n (raised f w) (looked w (raised f w))) e ≡ true → happens job cells (alone n (raised f w) (looked w (raised f w))) e ≡ alone k g v
      → run job cells place (Raise 0 ∷ Look 0 ∷ e ∷ more) (alone n f w) ≡ run job cells (place + 3) more (alone k g v)
  three_events e more place n f w k g v may is =
      let there : place + 1 + 1 + 1 ≡ place + 3 = omega arith in
      one_event e more (place + 1 + 1) (alone n (raised f w) (looked w (raised f w))) may ∙ (ap (λ s. run job cells (place + 1 + 1 + 1) more s) is ∙ ap (λ p. run job cells p more (alone k g v)) there)

  no_events : (P : Event → Type 0) → All P []
  no_events P = λ i d l. absurd (omega (arith, l))

  three_own : (e : Event) → worker_of e < 8 → All (λ x. worker_of x < 8) (Raise 0 ∷ Look 0 ∷ e ∷ [])
  three_own e h =
      let P : Event → Type 0 = λ x. worker_of x < 8 in
      All-cons (λ x. worker_of x < 8) (Raise 0) (Look 0 ∷ e ∷ []) (omega arith) (All-cons (λ x. worker_of x < 8) (Look 0) (e ∷ []) (omega arith) (All-cons (λ x. worker_of x < 8) e [] h (no_events (λ x. worker_of x < 8))))

  left_more : (n : ℕ) (p : List ℕ) (stack : List (List ℕ)) → turns_left job n (p ∷ stack) ≡ tree_size job p + turns_left job n stack
  left_more n p stack = omega (arith, sum_by-cons (tree_size job) p stack)

  left_root : (n : ℕ) (r : List ℕ) → slice_get (roots job) n ≡ Some r → turns_left job (n + 1) (r ∷ []) + 1 ≡ turns_left job n []
  left_root n r e =
      let next : suc n ≡ n + 1 = omega arith in
      let is : drop n (roots job) ≡ r ∷ drop (n + 1) (roots job) = drop_here (roots job) n r e ∙ ap (λ k. r ∷ drop k (roots job)) next in
      let sum : sum_by (λ q. 1 + tree_size job q) (drop n (roots job)) ≡ sum_by (λ q. 1 + tree_size job q) (r ∷ drop (n + 1) (roots job)) = ap (λ qs. sum_by (λ q. 1 + tree_size job q) qs) is in
      omega (arith, sum, sum_by-cons (λ q. 1 + tree_size job q) r (drop (n + 1) (roots job)), sum_by-cons (tree_size job) r [])

  -- a claim
  pub claim_step : (n f : ℕ) (w : WorkerState) → w.stack ≡ [] → n < length (roots job) → IsStep job cells n f w (n + 1) f (claimed w n (slice_get (roots job) n)) (Claim 0 ∷ [])
  claim_step n f w idle left = subst (λ st. IsStep job cells n f (with_stack w st) (n + 1) f (claimed (with_stack w st) n (slice_get (roots job) n)) (Claim 0 ∷ [])) (sym idle) (record {
    turn_is = cond-true (nat_lt n (length (roots job))) (Claim 0 ∷ []) [] (lt-ltb n (length (roots job)) left);
    leads = refl;
    goes = λ place more. refl;
    partials = (by_root (slice_get (roots job) n) refl).0;
    fewer = (by_root (slice_get (roots job) n) refl).1;
    its_own = All-cons (λ e. worker_of e < 8) (Claim 0) [] (omega arith) (no_events (λ e. worker_of e < 8));
  })
    where
      by_root : (o : Option (List ℕ)) → slice_get (roots job) n ≡ o → All (IsPartial job) (claimed (with_stack w []) n o).stack × (turns_left job (n + 1) (claimed (with_stack w []) n o).stack + 1 ≤ turns_left job n [])
      by_root None e = absurd (omega (arith, left, got_none (roots job) n e))
      by_root (Some r) e = (All-cons (IsPartial job) r [] (root_is_partial job fine n r e) (λ i d l. absurd (omega (arith, l))), omega (arith, left_root n r e))

  -- a cut
  pub cut_step : (n f : ℕ) (w : WorkerState) (p : List ℕ) (rest : List (List ℕ)) → w.stack ≡ p ∷ rest → All (IsPartial job) w.stack → is_low job (max w.seen (raised f w)) (Some p) ≡ true
      → IsStep job cells n f w n (raised f w) (cut (looked w (raised f w))) (Raise 0 ∷ Look 0 ∷ Cut 0 ∷ [])
  cut_step n f w p rest e are low = subst (λ st. IsStep job cells n f (with_stack w st) n (raised f w) (cut (looked (with_stack w st) (raised f w))) (Raise 0 ∷ Look 0 ∷ Cut 0 ∷ [])) (sym e) (record {
    turn_is = cond-true (is_low job (max w.seen (raised f w)) (Some p)) (Raise 0 ∷ Look 0 ∷ Cut 0 ∷ []) (Raise 0 ∷ Look 0 ∷ Open 0 ∷ []) low;
    leads = refl;
    goes = λ place more. three_events (Cut 0) more place n f (with_stack w (p ∷ rest)) n (raised f w) (cut (looked (with_stack w (p ∷ rest)) (raised f w))) low refl;
    partials = All-tail (IsPartial job) p rest (subst (λ st. All (IsPartial job) st) e are);
    fewer = omega (arith, left_more n p rest);
    its_own = three_own (Cut 0) (omega arith);
  })

  -- an open
  pub open_step : (n f : ℕ) (w : WorkerState) (p : List ℕ) (rest : List (List ℕ)) → w.stack ≡ p ∷ rest → All (IsPartial job) w.stack → is_low job (max w.seen (raised f w)) (Some p) ≡ false
      → IsStep job cells n f w n (raised f w) (opened job cells (looked w (raised f w))) (Raise 0 ∷ Look 0 ∷ Open 0 ∷ [])
  open_step n f w p rest e are low = subst (λ st. IsStep job cells n f (with_stack w st) n (raised f w) (opened job cells (looked (with_stack w st) (raised f w))) (Raise 0 ∷ Look 0 ∷ Open 0 ∷ [])) (sym e) (record {
    turn_is = cond-false (is_low job (max w.seen (raised f w)) (Some p)) (Raise 0 ∷ Look 0 ∷ Cut 0 ∷ []) (Raise 0 ∷ Look 0 ∷ Open 0 ∷ []) low;
    leads = refl;
    goes = λ place more. three_events (Open 0) more place n f (with_stack w (p ∷ rest)) n (raised f w) (opened job cells (looked (with_stack w (p ∷ rest)) (raised f w))) high refl;
    partials = All-append (IsPartial job) (children_of job (survivors job cells p) p) rest (are_partials (survivors job cells p)) (All-tail (IsPartial job) p rest both);
    fewer = by_found (survivors job cells p);
    its_own = three_own (Open 0) (omega arith);
  })
    where
      both : All (IsPartial job) (p ∷ rest)
      both = subst (λ st. All (IsPartial job) st) e are

      is : IsPartial job p
      is = All-head (IsPartial job) p rest (subst (λ st. All (IsPartial job) st) e are)

      high : nat_le (max w.seen (raised f w)) (bound job p) ≡ true
      high = le-leb (max w.seen (raised f w)) (bound job p) (ltb-false (bound job p) (max w.seen (raised f w)) low)

      are_partials : (found : List (List Link)) → All (IsPartial job) (children_of job found p)
      are_partials [] = λ i d l. absurd (omega (arith, l))
      are_partials (x ∷ found) = all_from_members (IsPartial job) (children job p) (λ q h. let m = member_of_map (λ k. p ++ k ∷ []) (candidates job p) q h in subst (IsPartial job) m.2 (child_is_partial job fine p m.0 is m.1))

      by_found : (found : List (List Link)) → turns_left job n (children_of job found p ++ rest) + 1 ≤ turns_left job n (p ∷ rest)
      by_found [] = omega (arith, left_more n p rest)
      by_found (x ∷ found) = omega (arith, left_more n p rest, sum_by-append (tree_size job) (children job p) rest, tree_size_is job fine p is)

  -- what a worker does next
  pub data Next (n f : ℕ) (w : WorkerState) : Type 0 where
    Rests : w.stack ≡ [] → length (roots job) ≤ n → turn job (alone n f w) ≡ [] → Next n f w
    Steps : (k g : ℕ) (v : WorkerState) (events : List Event) → IsStep job cells n f w k g v events → Next n f w

  pub next_is : (n f : ℕ) (w : WorkerState) → All (IsPartial job) w.stack → Next n f w
  next_is n f w are = by_stack w.stack refl
    where
      by_stack : (st : List (List ℕ)) → w.stack ≡ st → Next n f w
      by_stack [] e =
          ⊎_elim
          (λ left. Steps (n + 1) f (claimed w n (slice_get (roots job) n)) (Claim 0 ∷ []) (claim_step n f w e left))
          (λ past. Rests e past (subst (λ st. turn job (alone n f (with_stack w st)) ≡ []) (sym e) (cond-false (nat_lt n (length (roots job))) (Claim 0 ∷ []) [] (le-ltb n (length (roots job)) past))))
          (cases_lt n (length (roots job)))
      by_stack (p ∷ rest) e =
          ⊎_elim
          (λ low. Steps n (raised f w) (cut (looked w (raised f w))) (Raise 0 ∷ Look 0 ∷ Cut 0 ∷ []) (cut_step n f w p rest e are low))
          (λ high. Steps n (raised f w) (opened job cells (looked w (raised f w))) (Raise 0 ∷ Look 0 ∷ Open 0 ∷ []) (open_step n f w p rest e are high))
          (cases_Bool (is_low job (max w.seen (raised f w)) (Some p)))

  -- where no turn is left, the worker is idle and no root is left
  pub none_left : (n : ℕ) (stack : List (List ℕ)) → turns_left job n stack ≤ 0 → (stack ≡ []) × (length (roots job) ≤ n)
  none_left n (p ∷ rest) h = absurd (omega (arith, left_more n p rest, h))
  none_left n [] h = (refl, ⊎_elim (λ left. by_root (slice_get (roots job) n) refl left) (λ past. past) (cases_lt n (length (roots job))))
    where
      by_root : (o : Option (List ℕ)) → slice_get (roots job) n ≡ o → n < length (roots job) → length (roots job) ≤ n
      by_root None e left = got_none (roots job) n e
      by_root (Some r) e left = absurd (omega (arith, left_root n r e, h))
