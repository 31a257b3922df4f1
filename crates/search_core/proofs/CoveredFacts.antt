-- Good workers that have nothing in hand and claimed every root have the job's answer together.
use Rattle.std.proofs.Common.{◌≡◌, ℕ, ◌<◌, Bool, true, false, not, inl, List, [], ◌∷◌, length, All, refl, sym, ◌∙◌, ap, subst, slice_get, nat_lt}
use Rattle.std.specs.Prelude.{Contains, flat_map, ◌&&◌, ◌||◌}
use Rattle.std.specs.List.{list_any}
use Rattle.std.proofs.lemmas.Bool.{lt-ltb}
use Rattle.std.proofs.lemmas.List.{get_or_default}
use Rattle.std.proofs.lemmas.List.Elements.{All-head, All-tail}
use Rattle.geo_base.specs.declared.cells.Cell.{Cell}
use Rattle.geo_base.specs.declared.job.Job.{Job}
use Rattle.geo_base.specs.Job.{Fits, job_best}
use Rattle.stackable.specs.Partial.{roots}
use Rattle.search_core.specs.Machine.{WorkerState, State, idle_worker, is_of_root}
use Rattle.search_core.specs.Covers.{IsGoodWorker, IsGood}
use Rattle.geo_base.proofs.Members.{member_of_flat_map}
use Rattle.search_core.proofs.SearchFacts.{done_has_answer}
use Rattle.search_core.specs.Merging.{merged_tops}
use Rattle.search_core.proofs.MergedFacts.{into_new}

-- no worker with an empty stack has a partial of a root
none_held : (p : List ℕ → Bool) (workers : List WorkerState) → All (λ w. w.stack ≡ []) workers → list_any (λ w. list_any p w.stack) workers ≡ false
none_held p [] idle = refl
none_held p (w ∷ workers) idle =
    let here : list_any p w.stack ≡ false = ap (list_any p) (All-head (λ (v : WorkerState). v.stack ≡ []) w workers idle) in
    ap (λ b. b || list_any (λ v. list_any p v.stack) workers) here ∙ none_held p workers (All-tail (λ (v : WorkerState). v.stack ≡ []) w workers idle)

module _ (job : Job) (cells : List (List Cell)) (fits : Fits job cells) (workers : List WorkerState) (good : All (IsGoodWorker job cells) workers) (idle : All (λ w. w.stack ≡ []) workers)
    (all : (k : ℕ) → k < length (roots job) → Contains (flat_map (λ w. w.claims) workers) k) where
  pub covered_is_best : merged_tops [] workers ≡ job_best job cells
  covered_is_best =
      let s : State = record { next = length (roots job); floor = 0; workers = workers } in
      let is : IsGood job cells (record { next = length (roots job); floor = 0; workers = workers }) = record {
        workers = good;
        floor = inl refl;
        claimed = λ k root h e.
            let m = member_of_flat_map (λ (w : WorkerState). w.claims) workers k (all k h) in
            let at = m.1 in
            (at.0, at.1, subst (λ (w : WorkerState). Contains w.claims k) (sym (get_or_default workers at.0 idle_worker m.0 at.1 ∙ at.2)) m.2);
      } in
      into_new workers
      ∙ done_has_answer job cells fits (record { next = length (roots job); floor = 0; workers = workers }) is
      (λ k h. let below : nat_lt k (length (roots job)) ≡ true = lt-ltb k (length (roots job)) h in
      ap (λ b. b && not (list_any (λ w. list_any (is_of_root (slice_get (roots job) k)) w.stack) workers)) below ∙ ap not (none_held (is_of_root (slice_get (roots job) k)) workers idle))
