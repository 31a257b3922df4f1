-- A step of one worker among the workers of a replay.
use Rattle.std.proofs.Common.{◌≡◌, ℕ, zero, suc, ◌<◌, Bool, true, false, cond, List, [], ◌∷◌, length, map, get_or, set, refl, sym, ◌∙◌, ap, subst, arith, is_none, Option}
use Rattle.std.proofs.lemmas.List.{get_or-map}
use Rattle.std.proofs.lemmas.List.Elements.{All-set}
use Rattle.geo_base.specs.declared.cells.Cell.{Cell}
use Rattle.geo_base.specs.declared.job.Job.{Job}
use Rattle.search_core.specs.Machine.{WorkerState, idle_worker, worker_at, top_partial, may_cut, may_open, claimed, cut, opened}
use Rattle.search_core.specs.Hand.{Hand, as_worker, AreOf}
use Rattle.search_core.specs.Shown.{unclaimed, shown}
use Rattle.search_core.specs.Staged.{staged}
use Rattle.search_core.proofs.AlongFacts.{may_from, some_from}

pub staged_at : (n f : ℕ) (hands : List Hand) (w : ℕ) (h : Hand) → w < length hands → h ≡ get_or hands w h → worker_at (staged n f hands) w ≡ as_worker [] h
staged_at n f hands w h inside at = get_or-map (as_worker []) hands w h idle_worker inside ∙ ap (as_worker []) (sym at)

same_again : (hands : List Hand) → map (as_worker []) hands ≡ map unclaimed (map (as_worker []) hands)
same_again [] = refl
same_again (h ∷ hands) = ap (λ ws. as_worker [] h ∷ ws) (same_again hands)

pub staged_set : (hands : List Hand) (w : ℕ) (j : Hand) (v : WorkerState) → as_worker [] j ≡ unclaimed v → map (as_worker []) (set hands w j) ≡ map unclaimed (set (map (as_worker []) hands) w v)
staged_set [] w j v e = refl
staged_set (h ∷ hands) zero j v e = ap (λ x. x ∷ map (as_worker []) hands) e ∙ ap (λ ws. unclaimed v ∷ ws) (same_again hands)
staged_set (h ∷ hands) (suc w) j v e = ap (λ ws. as_worker [] h ∷ ws) (staged_set hands w j v e)

pub staged_step : (n f : ℕ) (hands : List Hand) (w : ℕ) (j : Hand) (v : WorkerState) → as_worker [] j ≡ unclaimed v
    → staged n f (set hands w j) ≡ shown (record { next = n; floor = f; workers = set (map (as_worker []) hands) w v })
staged_step n f hands w j v e = ap (λ ws. record { next = n; floor = f; workers = ws }) (staged_set hands w j v e)

pub staged_same : (n f : ℕ) (hands : List Hand) → staged n f hands ≡ shown (staged n f hands)
staged_same n f hands = ap (λ ws. record { next = n; floor = f; workers = ws }) (same_again hands)

pub claimed_from : (ks : List ℕ) (h j : Hand) (n : ℕ) (o : Option (List ℕ)) (x : WorkerState) → as_worker ks j ≡ claimed (as_worker [] h) n o → x ≡ as_worker [] h → as_worker [] j ≡ unclaimed (claimed x n o)
claimed_from ks h j n o x is at = ap unclaimed is ∙ sym (ap (λ y. unclaimed (claimed y n o)) at)

pub opened_from : (job : Job) (cells : List (List Cell)) (h j : Hand) (x : WorkerState) → as_worker [] j ≡ opened job cells (as_worker [] h) → x ≡ as_worker [] h → as_worker [] j ≡ unclaimed (opened job cells x)
opened_from job cells h j x is at = ap unclaimed is ∙ sym (ap (λ y. unclaimed (opened job cells y)) at)

pub job_at : (job : Job) (hands : List Hand) (w : ℕ) (h : Hand) → w < length hands → h ≡ get_or hands w h → AreOf job hands → h.job ≡ job
job_at job hands w h inside at own = ap (λ (x : Hand). x.job) at ∙ own w h inside

-- whether a worker may cut, by what it has in hand
pub may_cut_at : (job : Job) (n f : ℕ) (hands : List Hand) (w : ℕ) (h : Hand) → w < length hands → h ≡ get_or hands w h → AreOf job hands → may_cut h.job (as_worker [] h) ≡ may_cut job (worker_at (staged n f hands) w)
may_cut_at job n f hands w h inside at own =
    ap (λ (q : Job). may_cut q (as_worker [] h)) (job_at job hands w h inside at own) ∙ ap (may_cut job) (sym (staged_at n f hands w h inside at))

-- a worker that has a partial and may not cut it may open it
pub may_open_at : (job : Job) (n f : ℕ) (hands : List Hand) (w : ℕ) (first second h : Hand) → w < length hands → first ≡ get_or hands w first → second ≡ get_or hands w second → h ≡ get_or hands w h → AreOf job hands
    → is_none (top_partial first.stack) ≡ false → may_cut second.job (as_worker [] second) ≡ false → may_open job (as_worker [] h) ≡ true
may_open_at job n f hands w first second h inside at_first at_second at own some low =
    let here : worker_at (staged n f hands) w ≡ as_worker [] h = staged_at n f hands w h inside at in
    may_from job h
    (subst (λ (x : WorkerState). 0 < length x.stack) (sym (staged_at n f hands w first inside at_first) ∙ here) (some_from first.stack some))
    (ap (may_cut job) (sym here) ∙ (sym (may_cut_at job n f hands w second inside at_second own) ∙ low))

same_workers : (hands : List Hand) (w : ℕ) (h j : Hand) → w < length hands → h ≡ get_or hands w h → as_worker [] j ≡ as_worker [] h → map (as_worker []) (set hands w j) ≡ map (as_worker []) hands
same_workers [] w h j l at is = absurd (omega (arith, l))
same_workers (x ∷ hands) zero h j l at is = ap (λ y. y ∷ map (as_worker []) hands) (is ∙ ap (as_worker []) at)
same_workers (x ∷ hands) (suc w) h j l at is = ap (λ ws. as_worker [] x ∷ ws) (same_workers hands w h j (omega (arith, l)) at is)

pub cut_one : (n f : ℕ) (hands : List Hand) (w : ℕ) (h j : Hand) (b : Bool) → w < length hands → h ≡ get_or hands w h → as_worker [] j ≡ cond b (cut (as_worker [] h)) (as_worker [] h)
    → staged n f (set hands w j) ≡ cond b (shown (record { next = n; floor = f; workers = set (map (as_worker []) hands) w (cut (worker_at (staged n f hands) w)) })) (staged n f hands)
cut_one n f hands w h j true inside at is = staged_step n f hands w j (cut (worker_at (staged n f hands) w)) (is ∙ sym (ap (λ x. unclaimed (cut x)) (staged_at n f hands w h inside at)))
cut_one n f hands w h j false inside at is =
    ap (λ ws. record { next = n; floor = f; workers = ws }) (same_workers hands w h j inside at is)

-- they stay of this job
pub jobs_kept : (job : Job) (hands : List Hand) (w : ℕ) (h j : Hand) → w < length hands → h ≡ get_or hands w h → j.job ≡ h.job → AreOf job hands → AreOf job (set hands w j)
jobs_kept job hands w h j inside at same own = All-set (λ (x : Hand). x.job ≡ job) hands w j (same ∙ job_at job hands w h inside at own) own
