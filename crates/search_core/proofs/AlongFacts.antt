-- Along the search by one worker: what it has still to do leads to the end of the run, and what it counted is what is missing.
use Rattle.std.proofs.Common.{◌≡◌, ℕ, zero, suc, ◌+◌, ◌-◌, ◌<◌, ◌≤◌, min, max, Bool, true, false, cond, not, is_none, List, [], ◌∷◌, ◌++◌, length, All, refl, sym, ◌∙◌, ap, subst, arith, append-nil, Some, slice_get, ◌^◌}
use Rattle.std.specs.Prelude.{count_by}
use Rattle.std.proofs.lemmas.Bool.{ltb-true, ltb-false, le-leb, lt-leb}
use Rattle.std.proofs.lemmas.List.Sums.{sum_by-append}
use Rattle.geo_base.specs.declared.cells.Cell.{Cell}
use Rattle.geo_base.specs.declared.job.Job.{Job}
use Rattle.geo_base.specs.declared.event.Event.{Event}
use Rattle.geo_base.specs.declared.event.Event.TheVariants.{Claim, Look, Cut, Open, Raise}
use Rattle.geo_base.specs.Job.{Fits, job_best}
use Rattle.stackable.specs.Partial.{bound, partials, roots, IsPartial}
use Rattle.search_core.specs.Machine.{WorkerState, State, worker_of, top_partial, is_low, is_high, may_cut, may_open, claimed, looked, cut, opened, turns, turn, after, is_open, is_cut, opens, cuts, worker_at}
use Rattle.top_list.specs.Merged.{floor_of}
use Rattle.search_core.specs.Covers.{IsGood}
use Rattle.search_core.proofs.SearchFacts.{run_is_good}
use Rattle.search_core.specs.Alone.{alone, turns_left, last_state, one_if}
use Rattle.search_core.specs.Hand.{Hand, as_worker}
use Rattle.search_core.proofs.StepFacts.{IsStep, claim_step, cut_step, open_step, next_is, Next, Rests, Steps}
use Rattle.search_core.proofs.OneRunFacts.{nothing_left, enough_turns, turns_step, turns_rest, after_both, first_is_good, last_top}

-- a worker that works alone has come so far: it claimed the roots below n, has these in hand, and counted so many opens and cuts and ticked so many steps
pub record IsAlong (job : Job) (cells : List (List Cell)) (n floor : ℕ) (h : Hand) (open_count cut_count start steps : ℕ) : Type 0 where
  pub claims : List ℕ
  pub left : ℕ
  pub enough : turns_left job n h.stack ≤ left
  pub leads : after job cells (turns job cells left (alone n floor (as_worker claims h))) (alone n floor (as_worker claims h)) ≡ last_state job cells
  pub opened : ℕ
  pub cut_off : ℕ
  pub opens_are : opened + count_by is_open (turns job cells left (alone n floor (as_worker claims h))) ≡ opens job cells
  pub cuts_are : cut_off + count_by is_cut (turns job cells left (alone n floor (as_worker claims h))) ≡ cuts job cells
  pub opens_told : open_count ≡ min opened (2 ^ 64 - 1)
  pub cuts_told : cut_count ≡ min cut_off (2 ^ 64 - 1)
  pub ticked : steps ≡ start + opened
  pub stack : All (IsPartial job) h.stack
  pub good : IsGood job cells (alone n floor (as_worker claims h))

module _ (job : Job) (cells : List (List Cell)) (fits : Fits job cells) where
  -- at the start
  pub starts : (steps : ℕ) (h : Hand) → h ≡ record { job = job; stack = []; seen = 0; top = [] } → IsAlong job cells 0 0 h 0 0 steps steps
  starts steps h e = subst (λ (x : Hand). IsAlong job cells 0 0 x 0 0 steps steps) (sym e) (record {
    claims = [];
    left = length job.pieces + length (partials job);
    enough = enough_turns job cells fits.is_job;
    leads = refl;
    opened = 0;
    cut_off = 0;
    opens_are = omega arith;
    cuts_are = omega arith;
    opens_told = omega arith;
    cuts_told = omega arith;
    ticked = omega arith;
    stack = λ i d l. absurd (omega (arith, l));
    good = first_is_good job cells fits;
  })

  step_is_good : (n f : ℕ) (w : WorkerState) (k g : ℕ) (v : WorkerState) (events : List Event) → IsStep job cells n f w k g v events → IsGood job cells (alone n f w) → IsGood job cells (alone k g v)
  step_is_good n f w k g v events step good =
      let own : All (λ e. worker_of e < 8) (events ++ []) = subst (λ es. All (λ e. worker_of e < 8) es) (sym (append-nil events)) step.its_own in
      run_is_good job cells fits (events ++ []) 0 (alone n f w) (alone k g v) own (step.goes 0 []) good

  -- a turn
  one_turn : (n f : ℕ) (h : Hand) (o c start steps : ℕ) → (a : IsAlong job cells n f h o c start steps)
      → (k g : ℕ) (j : Hand) (ks : List ℕ) (events : List Event) (opened_now cut_now : ℕ) → IsStep job cells n f (as_worker a.claims h) k g (as_worker ks j) events
      → count_by is_open events ≡ opened_now → count_by is_cut events ≡ cut_now
      → (p d steps' : ℕ) → p ≡ min (o + opened_now) (2 ^ 64 - 1) → d ≡ min (c + cut_now) (2 ^ 64 - 1) → steps' ≡ steps + opened_now
      → IsAlong job cells k g j p d start steps'
  one_turn n f h o c start steps a k g j ks events opened_now cut_now step these those p d steps' p_is d_is steps_is = by_left a.left refl
    where
      by_left : (m : ℕ) → a.left ≡ m → IsAlong job cells k g j p d start steps'
      by_left zero e = absurd (omega (arith, step.fewer, a.enough, e))
      by_left (suc m) e =
          let old = alone n f (as_worker a.claims h) in
          let new = alone k g (as_worker ks j) in
          let is : turns job cells a.left (alone n f (as_worker a.claims h)) ≡ events ++ turns job cells m (alone k g (as_worker ks j)) =
          ap (λ i. turns job cells i (alone n f (as_worker a.claims h))) e ∙ turns_step job cells m n f (as_worker a.claims h) k g (as_worker ks j) events step in
          let all_opens : count_by is_open (turns job cells a.left (alone n f (as_worker a.claims h))) ≡ count_by is_open events + count_by is_open (turns job cells m (alone k g (as_worker ks j))) =
          ap (count_by is_open) is ∙ sum_by-append (λ x. cond (is_open x) 1 0) events (turns job cells m (alone k g (as_worker ks j))) in
          let all_cuts : count_by is_cut (turns job cells a.left (alone n f (as_worker a.claims h))) ≡ count_by is_cut events + count_by is_cut (turns job cells m (alone k g (as_worker ks j))) =
          ap (count_by is_cut) is ∙ sum_by-append (λ x. cond (is_cut x) 1 0) events (turns job cells m (alone k g (as_worker ks j))) in
          record {
            claims = ks;
            left = m;
            enough = omega (arith, step.fewer, a.enough, e);
            leads = sym (ap (λ es. after job cells es (alone n f (as_worker a.claims h))) is ∙ (after_both job cells events (turns job cells m (alone k g (as_worker ks j))) (alone n f (as_worker a.claims h)) ∙ ap (λ s. after job cells (turns job cells m (alone k g (as_worker ks j))) s) step.leads)) ∙ a.leads;
            opened = a.opened + opened_now;
            cut_off = a.cut_off + cut_now;
            opens_are = omega (arith, a.opens_are, all_opens, these);
            cuts_are = omega (arith, a.cuts_are, all_cuts, those);
            opens_told = omega (arith, a.opens_told, p_is);
            cuts_told = omega (arith, a.cuts_told, d_is);
            ticked = omega (arith, a.ticked, steps_is);
            stack = step.partials;
            good = step_is_good n f (as_worker a.claims h) k g (as_worker ks j) events step a.good;
          }

  -- a claim
  pub claims_along : (n f : ℕ) (h j : Hand) (o c start steps : ℕ) → IsAlong job cells n f h o c start steps → h.stack ≡ [] → n < length (roots job)
      → ((claims : List ℕ) → as_worker (claimed (as_worker claims h) n (slice_get (roots job) n)).claims j ≡ claimed (as_worker claims h) n (slice_get (roots job) n))
      → IsAlong job cells (n + 1) f j o c start steps
  claims_along n f h j o c start steps a idle left is =
      let v = claimed (as_worker a.claims h) n (slice_get (roots job) n) in
      let step : IsStep job cells n f (as_worker a.claims h) (n + 1) f (as_worker (claimed (as_worker a.claims h) n (slice_get (roots job) n)).claims j) (Claim 0 ∷ []) =
      subst (λ x. IsStep job cells n f (as_worker a.claims h) (n + 1) f x (Claim 0 ∷ [])) (sym (is a.claims)) (claim_step job cells fits.is_job n f (as_worker a.claims h) idle left) in
      one_turn n f h o c start steps a (n + 1) f j (claimed (as_worker a.claims h) n (slice_get (roots job) n)).claims (Claim 0 ∷ []) 0 0 step refl refl o c steps (omega (arith, a.opens_told)) (omega (arith, a.cuts_told)) (omega arith)

  -- a turn of a worker that has a partial
  pub turn_along : (n f g : ℕ) (h j : Hand) (o c p d start steps after_it : ℕ) (was_cut : Bool) → (a : IsAlong job cells n f h o c start steps) → 0 < length h.stack
      → g ≡ max f (floor_of h.top) → was_cut ≡ is_low job (max h.seen g) (top_partial h.stack)
      → ((claims : List ℕ) → as_worker claims j ≡ cond was_cut (cut (looked (as_worker claims h) g)) (opened job cells (looked (as_worker claims h) g)))
      → p ≡ min (o + one_if (not was_cut)) (2 ^ 64 - 1) → d ≡ min (c + one_if was_cut) (2 ^ 64 - 1) → after_it ≡ cond was_cut steps (steps + 1)
      → IsAlong job cells n g j p d start after_it × (turns_left job n j.stack < turns_left job n h.stack)
  turn_along n f g h j o c p d start steps after_it was_cut a some raise low is p_is d_is ticks = by_stack h.stack refl
    where
      by_stack : (st : List (List ℕ)) → h.stack ≡ st → IsAlong job cells n g j p d start after_it × (turns_left job n j.stack < turns_left job n h.stack)
      by_stack [] e = absurd (omega (arith, some, ap (length {A = List ℕ}) e))
      by_stack (q ∷ rest) e = by_cut was_cut refl
        where
          test : is_low job (max h.seen (max f (floor_of h.top))) (Some q) ≡ was_cut
          test = sym (low ∙ (ap (λ x. is_low job (max h.seen x) (top_partial h.stack)) raise ∙ ap (λ st. is_low job (max h.seen (max f (floor_of h.top))) (top_partial st)) e))

          by_cut : (b : Bool) → was_cut ≡ b → IsAlong job cells n g j p d start after_it × (turns_left job n j.stack < turns_left job n h.stack)
          by_cut true t =
              let ends : as_worker a.claims j ≡ cut (looked (as_worker a.claims h) (max f (floor_of h.top))) =
              is a.claims ∙ (ap (λ b. cond b (cut (looked (as_worker a.claims h) g)) (opened job cells (looked (as_worker a.claims h) g))) t ∙ ap (λ x. cut (looked (as_worker a.claims h) x)) raise) in
              let plain : IsStep job cells n f (as_worker a.claims h) n (max f (floor_of h.top)) (cut (looked (as_worker a.claims h) (max f (floor_of h.top)))) (Raise 0 ∷ Look 0 ∷ Cut 0 ∷ []) =
              cut_step job cells fits.is_job n f (as_worker a.claims h) q rest e a.stack (test ∙ t) in
              let step : IsStep job cells n f (as_worker a.claims h) n g (as_worker a.claims j) (Raise 0 ∷ Look 0 ∷ Cut 0 ∷ []) =
              subst (λ x. IsStep job cells n f (as_worker a.claims h) n x (as_worker a.claims j) (Raise 0 ∷ Look 0 ∷ Cut 0 ∷ [])) (sym raise)
              (subst (λ x. IsStep job cells n f (as_worker a.claims h) n (max f (floor_of h.top)) x (Raise 0 ∷ Look 0 ∷ Cut 0 ∷ [])) (sym ends) plain) in
              let p_now : p ≡ min (o + 0) (2 ^ 64 - 1) = subst (λ b. p ≡ min (o + one_if (not b)) (2 ^ 64 - 1)) t p_is in
              let d_now : d ≡ min (c + 1) (2 ^ 64 - 1) = subst (λ b. d ≡ min (c + one_if b) (2 ^ 64 - 1)) t d_is in
              let ticks_now : after_it ≡ steps = subst (λ b. after_it ≡ cond b steps (steps + 1)) t ticks in
              (one_turn n f h o c start steps a n g j a.claims (Raise 0 ∷ Look 0 ∷ Cut 0 ∷ []) 0 1 step refl refl p d after_it p_now d_now (omega (arith, ticks_now)), omega (arith, step.fewer))
          by_cut false t =
              let ends : as_worker a.claims j ≡ opened job cells (looked (as_worker a.claims h) (max f (floor_of h.top))) =
              is a.claims ∙ (ap (λ b. cond b (cut (looked (as_worker a.claims h) g)) (opened job cells (looked (as_worker a.claims h) g))) t ∙ ap (λ x. opened job cells (looked (as_worker a.claims h) x)) raise) in
              let plain : IsStep job cells n f (as_worker a.claims h) n (max f (floor_of h.top)) (opened job cells (looked (as_worker a.claims h) (max f (floor_of h.top)))) (Raise 0 ∷ Look 0 ∷ Open 0 ∷ []) =
              open_step job cells fits.is_job n f (as_worker a.claims h) q rest e a.stack (test ∙ t) in
              let step : IsStep job cells n f (as_worker a.claims h) n g (as_worker a.claims j) (Raise 0 ∷ Look 0 ∷ Open 0 ∷ []) =
              subst (λ x. IsStep job cells n f (as_worker a.claims h) n x (as_worker a.claims j) (Raise 0 ∷ Look 0 ∷ Open 0 ∷ [])) (sym raise)
              (subst (λ x. IsStep job cells n f (as_worker a.claims h) n (max f (floor_of h.top)) x (Raise 0 ∷ Look 0 ∷ Open 0 ∷ [])) (sym ends) plain) in
              let p_now : p ≡ min (o + 1) (2 ^ 64 - 1) = subst (λ b. p ≡ min (o + one_if (not b)) (2 ^ 64 - 1)) t p_is in
              let d_now : d ≡ min (c + 0) (2 ^ 64 - 1) = subst (λ b. d ≡ min (c + one_if b) (2 ^ 64 - 1)) t d_is in
              let ticks_now : after_it ≡ steps + 1 = subst (λ b. after_it ≡ cond b steps (steps + 1)) t ticks in
              (one_turn n f h o c start steps a n g j a.claims (Raise 0 ∷ Look 0 ∷ Open 0 ∷ []) 1 0 step refl refl p d after_it p_now d_now ticks_now, omega (arith, step.fewer))

  -- at the end
  pub record IsOver (h : Hand) (o c start steps : ℕ) : Type 0 where
    pub top : h.top ≡ job_best job cells
    pub opens_is : o ≡ min (opens job cells) (2 ^ 64 - 1)
    pub cuts_is : c ≡ min (cuts job cells) (2 ^ 64 - 1)
    pub ticks : steps ≡ start + opens job cells

  pub over : (n f : ℕ) (h : Hand) (o c start steps : ℕ) → IsAlong job cells n f h o c start steps → h.stack ≡ [] → length (roots job) ≤ n → IsOver h o c start steps
  over n f h o c start steps a idle past =
      let none : turns job cells a.left (alone n f (as_worker a.claims h)) ≡ [] = turns_rest job cells a.left (alone n f (as_worker a.claims h)) (rests (next_is job cells fits.is_job n f (as_worker a.claims h) a.stack)) in
      let last : alone n f (as_worker a.claims h) ≡ last_state job cells = sym (ap (λ es. after job cells es (alone n f (as_worker a.claims h))) none) ∙ a.leads in
      let no_opens : count_by is_open (turns job cells a.left (alone n f (as_worker a.claims h))) ≡ 0 = ap (count_by is_open) none in
      let no_cuts : count_by is_cut (turns job cells a.left (alone n f (as_worker a.claims h))) ≡ 0 = ap (count_by is_cut) none in
      record {
        top = ap (λ (s : State). (worker_at s 0).top) last ∙ last_top job cells fits;
        opens_is = let all : a.opened ≡ opens job cells = omega (arith, a.opens_are, no_opens) in omega (arith, a.opens_told, all);
        cuts_is = let all : a.cut_off ≡ cuts job cells = omega (arith, a.cuts_are, no_cuts) in omega (arith, a.cuts_told, all);
        ticks = omega (arith, a.ticked, a.opens_are, no_opens);
      }
    where
      rests : Next job cells fits.is_job n f (as_worker a.claims h) → turn job (alone n f (as_worker a.claims h)) ≡ []
      rests (Rests idle_too past_too none) = none
      rests (Steps k g v events step) =
          let nothing : turns_left job n h.stack ≡ 0 = nothing_left job n h.stack idle past in
          absurd (omega (arith, step.fewer, nothing))

-- a worker that has a partial and may not cut it may open it
pub may_from : (job : Job) (h : Hand) → 0 < length h.stack → may_cut job (as_worker [] h) ≡ false → may_open job (as_worker [] h) ≡ true
may_from job h some low = by_stack h.stack some low
  where
    by_stack : (st : List (List ℕ)) → 0 < length st → is_low job h.seen (top_partial st) ≡ false → is_high job h.seen (top_partial st) ≡ true
    by_stack [] l e = absurd (omega (arith, l))
    by_stack (p ∷ rest) l e = le-leb h.seen (bound job p) (ltb-false (bound job p) h.seen e)

-- one that may cut it may not open it
pub may_not_from : (job : Job) (w : WorkerState) → may_cut job w ≡ true → may_open job w ≡ false
may_not_from job w low = by_stack w.stack low
  where
    by_stack : (st : List (List ℕ)) → is_low job w.seen (top_partial st) ≡ true → is_high job w.seen (top_partial st) ≡ false
    by_stack [] e = absurd (cc e)
    by_stack (p ∷ rest) e = lt-leb w.seen (bound job p) (ltb-true (bound job p) w.seen e)

pub some_from : (st : List (List ℕ)) → is_none (top_partial st) ≡ false → 0 < length st
some_from [] e = absurd (cc e)
some_from (p ∷ rest) e = omega arith
