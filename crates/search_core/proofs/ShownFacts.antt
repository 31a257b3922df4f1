-- A state without its claims takes the same steps.
use Rattle.std.proofs.Common.{◌≡◌, ℕ, zero, suc, ◌+◌, Bool, not, is_none, ⊎_elim, List, [], ◌∷◌, length, map, set, refl, sym, ◌∙◌, ap, arith, Option, Some, None, slice_get, max, nat_lt}
use Rattle.std.specs.Prelude.{◌&&◌, ◌||◌}
use Rattle.std.specs.List.{list_any}
use Rattle.std.proofs.lemmas.Bool.{cases_lt}
use Rattle.std.proofs.lemmas.List.{get_or-map, get_or_past, length-map}
use Rattle.geo_base.specs.declared.cells.Cell.{Cell}
use Rattle.geo_base.specs.declared.job.Job.{Job}
use Rattle.geo_base.specs.declared.event.Event.{Event}
use Rattle.geo_base.specs.declared.event.Event.TheVariants.{Claim, Look, Cut, Open, Raise}
use Rattle.stackable.specs.Partial.{roots}
use Rattle.search_core.specs.Machine.{WorkerState, State, idle_worker, worker_at, top_partial, may_cut, may_open, claimed, looked, cut, opened, opened_at, is_allowed, happens, is_of_root, is_done}
use Rattle.top_list.specs.Merged.{floor_of}
use Rattle.search_core.specs.Shown.{unclaimed, shown}

-- a worker of the state without claims
pub shown_at : (s : State) (w : ℕ) → worker_at (shown s) w ≡ unclaimed (worker_at s w)
shown_at s w =
    ⊎_elim
    (λ inside. get_or-map unclaimed s.workers w idle_worker idle_worker inside)
    (λ past. get_or_past (map unclaimed s.workers) w idle_worker (omega (arith, past, length-map s.workers unclaimed)) ∙ sym (ap unclaimed (get_or_past s.workers w idle_worker past)))
    (cases_lt w (length s.workers))

module _ (job : Job) (cells : List (List Cell)) where
  pub allowed_shown : (s : State) (e : Event) → is_allowed job (shown s) e ≡ is_allowed job s e
  allowed_shown s (Claim w) = ap (λ (x : WorkerState). is_none (top_partial x.stack)) (shown_at s w)
  allowed_shown s (Look w) = refl
  allowed_shown s (Cut w) = ap (may_cut job) (shown_at s w)
  allowed_shown s (Open w) = ap (may_open job) (shown_at s w)
  allowed_shown s (Raise w) = refl

  claimed_shown : (w : WorkerState) (k : ℕ) (o : Option (List ℕ)) → unclaimed (claimed w k o) ≡ unclaimed (claimed (unclaimed w) k o)
  claimed_shown w k None = refl
  claimed_shown w k (Some r) = refl

  opened_shown : (w : WorkerState) (o : Option (List ℕ)) → unclaimed (opened_at job cells w o) ≡ unclaimed (opened_at job cells (unclaimed w) o)
  opened_shown w None = refl
  opened_shown w (Some p) = refl

  with_shown : (ws : List WorkerState) (w : ℕ) (u v : WorkerState) → unclaimed u ≡ unclaimed v → map unclaimed (set ws w u) ≡ map unclaimed (set (map unclaimed ws) w v)
  with_shown [] w u v e = refl
  with_shown (x ∷ ws) zero u v e = ap (λ y. y ∷ map unclaimed ws) e ∙ ap (λ ys. unclaimed v ∷ ys) (twice ws)
    where
      twice : (ws : List WorkerState) → map unclaimed ws ≡ map unclaimed (map unclaimed ws)
      twice [] = refl
      twice (y ∷ ys) = ap (λ zs. unclaimed y ∷ zs) (twice ys)
  with_shown (x ∷ ws) (suc w) u v e = ap (λ ys. unclaimed x ∷ ys) (with_shown ws w u v e)

  -- what happens is the same without the claims
  pub happens_shown : (s : State) (e : Event) → shown (happens job cells s e) ≡ shown (happens job cells (shown s) e)
  happens_shown s (Claim w) = ap (λ ws. record { next = s.next + 1; floor = s.floor; workers = ws }) (with_shown s.workers w (claimed (worker_at s w) s.next (slice_get (roots job) s.next)) (claimed (worker_at (shown s) w) s.next (slice_get (roots job) s.next))
      (claimed_shown (worker_at s w) s.next (slice_get (roots job) s.next) ∙ ap (λ x. unclaimed (claimed x s.next (slice_get (roots job) s.next))) (sym (shown_at s w))))
  happens_shown s (Look w) = ap (λ ws. record { next = s.next; floor = s.floor; workers = ws }) (with_shown s.workers w (looked (worker_at s w) s.floor) (looked (worker_at (shown s) w) s.floor)
      (ap (λ x. unclaimed (looked x s.floor)) (sym (shown_at s w))))
  happens_shown s (Cut w) = ap (λ ws. record { next = s.next; floor = s.floor; workers = ws }) (with_shown s.workers w (cut (worker_at s w)) (cut (worker_at (shown s) w))
      (ap (λ x. unclaimed (cut x)) (sym (shown_at s w))))
  happens_shown s (Open w) = ap (λ ws. record { next = s.next; floor = s.floor; workers = ws }) (with_shown s.workers w (opened job cells (worker_at s w)) (opened job cells (worker_at (shown s) w))
      (opened_shown (worker_at s w) (top_partial (worker_at s w).stack) ∙ ap (λ x. unclaimed (opened job cells x)) (sym (shown_at s w))))
  happens_shown s (Raise w) =
      ap (λ f. record { next = s.next; floor = max s.floor f; workers = map unclaimed s.workers }) (ap (λ (x : WorkerState). floor_of x.top) (sym (shown_at s w)))
      ∙ ap (λ ws. record { next = s.next; floor = max s.floor (floor_of (worker_at (shown s) w).top); workers = ws }) (twice s.workers)
    where
      twice : (ws : List WorkerState) → map unclaimed ws ≡ map unclaimed (map unclaimed ws)
      twice [] = refl
      twice (y ∷ ys) = ap (λ zs. unclaimed y ∷ zs) (twice ys)

  any_shown : (p : List ℕ → Bool) (ws : List WorkerState) → list_any (λ w. list_any p w.stack) (map unclaimed ws) ≡ list_any (λ w. list_any p w.stack) ws
  any_shown p [] = refl
  any_shown p (w ∷ ws) = ap (λ b. list_any p w.stack || b) (any_shown p ws)

  pub done_shown : (s : State) (k : ℕ) → is_done job (shown s) k ≡ is_done job s k
  done_shown s k = ap (λ b. nat_lt k s.next && not b) (any_shown (is_of_root (slice_get (roots job) k)) s.workers)
