-- Each event keeps a good state good.
use Rattle.std.proofs.Common.{◌≡◌, ℕ, ◌<◌, ◌≤◌, max, true, ◌⊎◌, inl, inr, ⊎_elim, List, [], ◌∷◌, ◌++◌, length, All, refl, sym, ◌∙◌, ap, subst, arith, length-append, Option, Some, None, slice_get, subst₂}
use Rattle.std.specs.Prelude.{AllPairs, Contains}
use Rattle.std.specs.List.{AllZip}
use Rattle.std.proofs.lemmas.Bool.{ltb-true, cases_lt}
use Rattle.std.proofs.lemmas.List.{get_or_past, get_or_append_left}
use Rattle.std.proofs.lemmas.List.Elements.{All-contains, All-cons, All-head, All-tail, All-weaker, All-append, Contains-append_cases, Contains-append_left, Contains-append_right}
use Rattle.geo_base.specs.declared.link.Link.{Link}
use Rattle.geo_base.specs.declared.cells.Cell.{Cell}
use Rattle.geo_base.specs.declared.job.Job.{Job}
use Rattle.geo_base.specs.Link.{stacks}
use Rattle.geo_base.specs.Order.{key_of, context_cmp, same_target, IsBefore}
use Rattle.geo_base.specs.Best.{IsMet, IsSettled, IsBest, best_of}
use Rattle.geo_base.specs.Job.{job_compat, links_of, IsJobContext, IsSound, Fits}
use Rattle.stackable.specs.Partial.{links_at, candidates, children, children, bound, roots, IsPartial, IsUnder, survivors}
use Rattle.search_core.specs.Machine.{WorkerState, State, idle_worker, worker_at, children_of, top_partial, below_top, is_low, may_cut, claimed, looked, cut, opened, opened_at}
use Rattle.top_list.specs.Merged.{merged}
use Rattle.search_core.specs.Covers.{On_stack, In_list, Below_floor, Covers, IsTop, IsGoodWorker}
use Rattle.geo_base.proofs.Members.{member_here, member_cases, no_member, member_of_map, member_in_map, all_from_members}
use Rattle.geo_base.proofs.OrderLaws.{context_cmp_total}
use Rattle.geo_base.proofs.BestFacts.{best_of_is_best}
use Rattle.geo_base.proofs.ContextFacts.{context_tie}
use Rattle.geo_base.proofs.AnswerFacts.{same_target_equiv}
use Rattle.geo_base.proofs.SettledFacts.{settled_through}
use Rattle.stackable.proofs.UnderFacts.{under_child, begins_length}
use Rattle.stackable.proofs.SurvivorFacts.{links_are_alike, chosen_from_begins, survivor_is_context, survivors_meet}
use Rattle.stackable.proofs.BoundFacts.{key_within_bound}

module _ (job : Job) (cells : List (List Cell)) (fits : Fits job cells) where
  pub sound_max : (f g : ℕ) → IsSound job cells f → IsSound job cells g → IsSound job cells (max f g)
  sound_max f g sf sg =
      ⊎_elim
      (λ less. let e : g ≡ max f g = omega (arith, less) in subst (IsSound job cells) e sg)
      (λ more. let e : f ≡ max f g = omega (arith, more) in subst (IsSound job cells) e sf)
      (cases_lt f g)

  -- the best of contexts of the job
  pub best_of_contexts : (xs : List (List Link)) → ((c : List Link) → Contains xs c → IsJobContext job cells c) → IsBest context_cmp same_target 40 (Contains xs) (best_of context_cmp same_target 40 xs)
  best_of_contexts xs are = best_of_is_best context_cmp_total same_target_equiv 40 xs (λ a b p q e. context_tie (links_of job.pieces cells) (links_are_alike job cells fits) a b (are a p).chosen (are b q).chosen e)

  pub top_of_best : (xs : List (List Link)) → ((c : List Link) → Contains xs c → IsJobContext job cells c) → IsTop job cells (best_of context_cmp same_target 40 xs)
  top_of_best xs are =
      let best = best_of_contexts xs are in
      record { few = best.few; contexts = All-weaker (Contains xs) (IsJobContext job cells) are (best_of context_cmp same_target 40 xs) best.chosen; in_order = best.in_order; one_each = best.one_each }

  pub idle_is_good : IsGoodWorker job cells idle_worker
  idle_is_good = record {
    covered = λ k root h. absurd (no_member k h);
    seen = inl refl;
    top = record { few = omega arith; contexts = λ k d l. absurd (omega (arith, l)); in_order = λ i j d l m. absurd (omega (arith, m)); one_each = λ i j d l m. absurd (omega (arith, m)) };
    stack = λ k d l. absurd (omega (arith, l));
  }

  pub worker_is_good : (s : State) (w : ℕ) → All (IsGoodWorker job cells) s.workers → IsGoodWorker job cells (worker_at s w)
  worker_is_good s w all =
      ⊎_elim
      (λ inside. all w idle_worker inside)
      (λ past. subst (IsGoodWorker job cells) (sym (get_or_past s.workers w idle_worker past)) idle_is_good)
      (cases_lt w (length s.workers))

  pub looked_is_good : (w : WorkerState) (f : ℕ) → IsSound job cells f → IsGoodWorker job cells w → IsGoodWorker job cells (looked w f)
  looked_is_good w f sound good = record {
    covered = λ k root h e c u. elim (good.covered k root h e c u) [
      | On_stack p m v ↦ On_stack p m v
      | In_list m ↦ In_list m
      | Below_floor less ↦ Below_floor (omega (arith, less))
    ];
    seen = sound_max w.seen f good.seen sound;
    top = good.top;
    stack = good.stack;
  }

  pub cut_is_good : (w : WorkerState) → may_cut job w ≡ true → IsGoodWorker job cells w → IsGoodWorker job cells (cut w)
  cut_is_good w may good = by_stack w.stack good.stack may (λ k root h e c u. good.covered k root h e c u)
    where
      by_stack : (stack : List (List ℕ)) → All (IsPartial job) stack → is_low job w.seen (top_partial stack) ≡ true → Covers job cells (record { claims = w.claims; stack = stack; seen = w.seen; top = w.top }) → IsGoodWorker job cells (record { claims = w.claims; stack = below_top stack; seen = w.seen; top = w.top })
      by_stack [] are may covered = absurd (cc may)
      by_stack (p ∷ rest) are may covered = record {
        covered = λ k root h e c u. elim (covered k root h e c u) [
          | On_stack q m v ↦
              ⊎_elim
              (λ same. Below_floor (let low : bound job p < w.seen = ltb-true (bound job p) w.seen may in
              let key : key_of c ≤ bound job p = key_within_bound job cells fits p c (All-head (IsPartial job) p rest are).some (subst (λ z. IsUnder job cells z c) (sym same) v) in
              omega (arith, low, key)))
              (λ t. On_stack q t v)
              (member_cases p q rest m)
          | In_list m ↦ In_list m
          | Below_floor less ↦ Below_floor less
        ];
        seen = good.seen;
        top = good.top;
        stack = All-tail (IsPartial job) p rest are;
      }

  pub claimed_is_good : (w : WorkerState) (k : ℕ) (root : Option (List ℕ)) → slice_get (roots job) k ≡ root → top_partial w.stack ≡ None → (((r : List ℕ) → slice_get (roots job) k ≡ Some r → IsPartial job r)) → IsGoodWorker job cells w → IsGoodWorker job cells (claimed w k root)
  claimed_is_good w k None e idle partial good = good
  claimed_is_good w k (Some r) e idle partial good = record {
    covered = λ j root h f c u.
        ⊎_elim
        (λ old. elim (good.covered j root old f c u) [
          | On_stack p m v ↦ absurd (no_top w.stack p idle m)
          | In_list m ↦ In_list m
          | Below_floor less ↦ Below_floor less
        ])
        (λ new. ⊎_elim
        (λ same. let one : Some root ≡ Some r = sym f ∙ (ap (λ i. slice_get (roots job) i) (sym same) ∙ e) in
        let is : root ≡ r = cc one in
        On_stack r (member_here r []) (subst (λ z. IsUnder job cells z c) is u))
        (λ none. absurd (no_member j none))
        (member_cases k j [] new))
        (Contains-append_cases w.claims (k ∷ []) j h);
    seen = good.seen;
    top = good.top;
    stack = All-cons (IsPartial job) r [] (partial r e) (λ i d l. absurd (omega (arith, l)));
  }
    where
      no_top : (stack : List (List ℕ)) (p : List ℕ) → top_partial stack ≡ None → Contains stack p → ⊥
      no_top [] p e m = no_member p m
      no_top (q ∷ rest) p e m = absurd (cc e)

  -- what settles an entry that meets c settles c
  settled_met : (d c : List Link) (answer : List (List Link)) → same_target d c ≡ true → (d ≡ c) ⊎ IsBefore d c → IsSettled context_cmp same_target 40 answer d → IsSettled context_cmp same_target 40 answer c
  settled_met d c answer same at settled =
      ⊎_elim
      (λ (m : IsMet context_cmp same_target answer d). inl (
        m.0,
        m.1,
        same_target_equiv.congr m.0 d c m.2 ∙ same,
        ⊎_elim
            (λ e. subst (λ z. (m.0 ≡ z) ⊎ IsBefore m.0 z) e m.3)
            (λ less. inr (⊎_elim (λ f. subst (λ z. IsBefore z c) (sym f) less) (λ early. context_cmp_total.trans m.0 d c early less) m.3))
            at,
      ))
      (λ full. inr (
        full.0,
        all_from_members (λ b. IsBefore b c) answer (λ e h.
            let early : IsBefore e d = All-contains (λ b. IsBefore b d) answer e full.1 h in
            ⊎_elim (λ f. subst (λ z. IsBefore e z) f early) (λ less. context_cmp_total.trans e d c early less) at),
      ))
      settled

  take_pairs : (R : Link → Link → Type 0) (front rest : List Link) → AllPairs R (front ++ rest) → AllPairs R front
  take_pairs R front rest h i j d l m =
      subst₂ R (get_or_append_left front rest d i (omega (arith, l, m))) (get_or_append_left front rest d j m) (h i j d l (omega (arith, m, length-append front rest)))

  -- the front of a context under a partial is a context of exactly its pieces, so some context survives
  front_meets : (p : List ℕ) (c : List Link) → IsPartial job p → IsUnder job cells p c → (d : List Link) × Contains (survivors job cells p) d
  front_meets p c is u =
      let long : length p ≡ length u.front = begins_length job cells p u.front u.begins in
      let context : IsJobContext job cells u.front = record {
        some = omega (arith, long, is.some);
        few = omega (arith, long, is.few);
        stacked = take_pairs (λ a b. stacks (job_compat job) a b ≡ true) u.front u.rest (subst (λ xs. AllPairs (λ a b. stacks (job_compat job) a b ≡ true) xs) u.parts u.context.stacked);
        chosen = chosen_from_begins job cells fits p u.front u.begins;
      } in
      let met = survivors_meet job cells fits p u.front is.some context u.begins in
      (met.0, met.1)

  pub opened_is_good : (w : WorkerState) → ((p : List ℕ) (k : ℕ) → IsPartial job p → Contains (candidates job p) k → IsPartial job (p ++ k ∷ [])) → IsGoodWorker job cells w → IsGoodWorker job cells (opened job cells w)
  opened_is_good w child good = by_stack w.stack good.stack (λ k root h e c u. good.covered k root h e c u)
    where
      children_kept : (found : List (List Link)) (p q : List ℕ) → Contains (children job p) q → (d : List Link) → Contains found d → Contains (children_of job found p) q
      children_kept [] p q h d m = absurd (no_member d m)
      children_kept (x ∷ found) p q h d m = h

      children_are : (found : List (List Link)) (p : List ℕ) → IsPartial job p → All (IsPartial job) (children_of job found p)
      children_are [] p is = λ i d l. absurd (omega (arith, l))
      children_are (x ∷ found) p is = all_from_members (IsPartial job) (children job p) (λ q h. let m = member_of_map (λ k. p ++ k ∷ []) (candidates job p) q h in subst (IsPartial job) m.2 (child p m.0 is m.1))

      survivors_are : (p : List ℕ) → IsPartial job p → (c : List Link) → Contains (survivors job cells p) c → IsJobContext job cells c
      survivors_are [] is c h = absurd (no_member c h)
      survivors_are (k ∷ rest) is c h = survivor_is_context job cells fits k rest c is.few h

      by_stack : (stack : List (List ℕ)) → All (IsPartial job) stack → Covers job cells (record { claims = w.claims; stack = stack; seen = w.seen; top = w.top }) → IsGoodWorker job cells (opened_at job cells (record { claims = w.claims; stack = stack; seen = w.seen; top = w.top }) (top_partial stack))
      by_stack [] are covered = record { covered = covered; seen = good.seen; top = good.top; stack = are }
      by_stack (p ∷ rest) are covered =
          let is : IsPartial job p = All-head (IsPartial job) p rest are in
          let more = survivors job cells p in
          let contexts : (c : List Link) → Contains (w.top ++ more) c → IsJobContext job cells c = λ c h. ⊎_elim (λ t. All-contains (IsJobContext job cells) w.top c good.top.contexts t) (λ t. survivors_are p is c t) (Contains-append_cases w.top more c h) in
          let best = best_of_contexts (w.top ++ more) contexts in
          let settles : (c : List Link) → IsSettled context_cmp same_target 40 w.top c → IsSettled context_cmp same_target 40 (merged w.top more) c = λ c old.
          settled_through context_cmp_total same_target_equiv 40 (merged w.top more) w.top c best.few good.top.one_each (λ x h. best.complete x (Contains-append_left w.top more x h)) old in
          record {
            covered = λ k root h e c u. elim (covered k root h e c u) [
              | On_stack q m v ↦
                  ⊎_elim
                  (λ same.
                  let under : IsUnder job cells p c = subst (λ z. IsUnder job cells z c) (sym same) v in
                  ⊎_elim
                  (λ exact. In_list (
                  let met = survivors_meet job cells fits p c is.some under.context (subst (λ xs. AllZip (λ k l. Contains (links_at job cells k) l) p xs) exact under.begins) in
                  let through : IsSettled context_cmp same_target 40 (merged w.top more) met.0 = best.complete met.0 (Contains-append_right w.top more met.0 met.1) in
                  settled_met met.0 c (merged w.top more) met.2 met.3 through))
                  (λ deeper.
                  On_stack (p ++ deeper.0 ∷ [])
                  (Contains-append_left (children_of job more p) rest (p ++ deeper.0 ∷ [])
                  (let front = front_meets p c is under in
                  children_kept more p (p ++ deeper.0 ∷ []) (member_in_map (λ k. p ++ k ∷ []) (candidates job p) deeper.0 deeper.1) front.0 front.1))
                  deeper.2)
                  (under_child job cells p c under))
                  (λ t. On_stack q (Contains-append_right (children_of job more p) rest q t) v)
                  (member_cases p q rest m)
              | In_list m ↦ In_list (settles c m)
              | Below_floor less ↦ Below_floor less
            ];
            seen = good.seen;
            top = top_of_best (w.top ++ more) contexts;
            stack = All-append (IsPartial job) (children_of job more p) rest (children_are more p is) (All-tail (IsPartial job) p rest are);
          }
