-- The search machine: workers that claim roots, open and cut partials, and share a floor.
use Rattle.std.specs.Prelude.{ℕ, Bool, true, false, zero, suc, not, ◌+◌, ◌&&◌, ◌==◌, is_none, nat_le, nat_lt, max, List, [], ◌∷◌, ◌++◌, length, flat_map, find, replicate, slice_get, slice_set, slice_index_or, Option, Some, None, Result, Ok, Err, count_by, if◌then◌else◌}
use Rattle.std.specs.List.{list_any}
use Rattle.geo_base.specs.declared.link.Link.{Link}
use Rattle.geo_base.specs.declared.cells.Cell.{Cell}
use Rattle.geo_base.specs.declared.job.Job.{Job}
use Rattle.geo_base.specs.declared.event.Event.{Event}
use Rattle.geo_base.specs.declared.event.Event.TheVariants.{Claim, Look, Cut, Open, Raise}
use Rattle.geo_base.specs.Order.{context_cmp, same_target}
use Rattle.geo_base.specs.Best.{best_of}
use Rattle.top_list.specs.Merged.{merged, floor_of}
use Rattle.stackable.specs.Partial.{numbers_below, partials, children, bound, roots, survivors}

-- a worker: the roots that it claimed, its partials from the top on, the floor that it has seen, and its best contexts
pub record WorkerState : Type 0 where
  pub claims : List ℕ
  pub stack : List (List ℕ)
  pub seen : ℕ
  pub top : List (List Link)

-- the state of a search
pub record State : Type 0 where
  pub next : ℕ
  pub floor : ℕ
  pub workers : List WorkerState

-- a worker at the start
abbrev pub idle_worker : WorkerState
idle_worker = record { claims = []; stack = []; seen = 0; top = [] }

-- the first state, with 8 workers
abbrev pub first_state : State
first_state = record { next = 0; floor = 0; workers = replicate 8 idle_worker }

-- the w-th worker
abbrev pub worker_at : State → ℕ → WorkerState
worker_at s w = slice_index_or s.workers w idle_worker

-- the children of a partial, where some context survives its coalescing
abbrev pub children_of : Job → List (List Link) → List ℕ → List (List ℕ)
children_of job [] partial = []
children_of job (c ∷ rest) partial = children job partial

-- the first of a stack, if it has one
abbrev pub top_partial : List (List ℕ) → Option (List ℕ)
top_partial [] = None
top_partial (p ∷ rest) = Some p

-- a stack without its first
abbrev pub below_top : List (List ℕ) → List (List ℕ)
below_top [] = []
below_top (p ∷ rest) = rest

-- the bound of the worker's top partial is below the floor that it has seen
abbrev pub is_low : Job → ℕ → Option (List ℕ) → Bool
is_low job seen None = false
is_low job seen (Some p) = nat_lt (bound job p) seen

-- it isn't below that floor
abbrev pub is_high : Job → ℕ → Option (List ℕ) → Bool
is_high job seen None = false
is_high job seen (Some p) = nat_le seen (bound job p)

-- the worker may cut
abbrev pub may_cut : Job → WorkerState → Bool
may_cut job w = is_low job w.seen (top_partial w.stack)

-- the worker may open
abbrev pub may_open : Job → WorkerState → Bool
may_open job w = is_high job w.seen (top_partial w.stack)

-- the worker with a root on its empty stack, where there is a root of this number
abbrev pub claimed : WorkerState → ℕ → Option (List ℕ) → WorkerState
claimed w k None = w
claimed w k (Some root) = record { claims = w.claims ++ k ∷ []; stack = root ∷ []; seen = w.seen; top = w.top }

-- the worker that has seen a floor
abbrev pub looked : WorkerState → ℕ → WorkerState
looked w floor = record { claims = w.claims; stack = w.stack; seen = max w.seen floor; top = w.top }

-- the worker without its top partial
abbrev pub cut : WorkerState → WorkerState
cut w = record { claims = w.claims; stack = below_top w.stack; seen = w.seen; top = w.top }

-- the worker after it opened its top partial: the survivors are offered, and the children take its place where there are survivors
abbrev pub opened_at : Job → List (List Cell) → WorkerState → Option (List ℕ) → WorkerState
opened_at job cells w None = w
opened_at job cells w (Some p) = record { claims = w.claims; stack = children_of job (survivors job cells p) p ++ below_top w.stack; seen = w.seen; top = merged w.top (survivors job cells p) }

-- the worker after it opened its top partial, if it has one
abbrev pub opened : Job → List (List Cell) → WorkerState → WorkerState
opened job cells w = opened_at job cells w (top_partial w.stack)

-- the state with another w-th worker
abbrev pub with_worker : State → ℕ → WorkerState → State
with_worker s w worker = record { next = s.next; floor = s.floor; workers = slice_set s.workers w worker }

-- the worker of an event
abbrev pub worker_of : Event → ℕ
worker_of (Claim w) = w
worker_of (Look w) = w
worker_of (Cut w) = w
worker_of (Open w) = w
worker_of (Raise w) = w

-- an event may happen
abbrev pub is_allowed : Job → State → Event → Bool
is_allowed job s (Claim w) = is_none (top_partial (worker_at s w).stack)
is_allowed job s (Look w) = true
is_allowed job s (Cut w) = may_cut job (worker_at s w)
is_allowed job s (Open w) = may_open job (worker_at s w)
is_allowed job s (Raise w) = true

-- the state after an event
abbrev pub happens : Job → List (List Cell) → State → Event → State
happens job cells s (Claim w) = record { next = s.next + 1; floor = s.floor; workers = slice_set s.workers w (claimed (worker_at s w) s.next (slice_get (roots job) s.next)) }
happens job cells s (Look w) = with_worker s w (looked (worker_at s w) s.floor)
happens job cells s (Cut w) = with_worker s w (cut (worker_at s w))
happens job cells s (Open w) = with_worker s w (opened job cells (worker_at s w))
happens job cells s (Raise w) = record { next = s.next; floor = max s.floor (floor_of (worker_at s w).top); workers = s.workers }

-- the state after events, the first of which has this place, or the place of the first that may not happen
abbrev pub run : Job → List (List Cell) → ℕ → List Event → State → Result State ℕ
run job cells place [] s = Ok s
run job cells place (e ∷ events) s = if is_allowed job s e then run job cells (place + 1) events (happens job cells s e) else Err place

-- a partial begins with the piece that a root is
abbrev pub is_of_root : Option (List ℕ) → List ℕ → Bool
is_of_root (Some (j ∷ more)) (i ∷ rest) = i == j
is_of_root _ _ = false

-- the k-th root is done: it was claimed, and no worker has a partial of it on its stack
abbrev pub is_done : Job → State → ℕ → Bool
is_done job s k = nat_lt k s.next && not (list_any (λ w. list_any (is_of_root (slice_get (roots job) k)) w.stack) s.workers)

-- the merge of the workers' lists
abbrev pub answer_of : State → List (List Link)
answer_of s = best_of context_cmp same_target 40 (flat_map (λ w. w.top) s.workers)

-- what a replay says
pub data Replayed : Type 0 where
  Found : List (List Link) → Replayed
  Illegal : ℕ → Replayed
  Unfinished : ℕ → Replayed

-- the first root that isn't done
abbrev pub first_left : Job → State → Option ℕ
first_left job s = find (λ k. not (is_done job s k)) (numbers_below (length (roots job)))

-- what is said where this root is the first that isn't done
abbrev pub verdict_by : Option ℕ → List (List Link) → Replayed
verdict_by None answer = Found answer
verdict_by (Some k) answer = Unfinished k

-- after all events: the first root that isn't done, or the answer
abbrev pub verdict : Job → State → Replayed
verdict job s = verdict_by (first_left job s) (answer_of s)

-- what is said of a run
abbrev pub replayed_by : Job → Result State ℕ → Replayed
replayed_by job (Ok s) = verdict job s
replayed_by job (Err place) = Illegal place

-- the replay of events
abbrev pub replayed : Job → List (List Cell) → List Event → Replayed
replayed job cells events = replayed_by job (run job cells 0 events first_state)

-- what one worker does next: a claim where it is idle and a root is left, else it raises and looks, and then cuts where it may, else opens
abbrev pub turn : Job → State → List Event
turn job s = turn_by (top_partial (worker_at s 0).stack)
  where
    turn_by : Option (List ℕ) → List Event
    turn_by None = if nat_lt s.next (length (roots job)) then Claim 0 ∷ [] else []
    turn_by (Some p) =
        if is_low job (max (worker_at s 0).seen (max s.floor (floor_of (worker_at s 0).top))) (Some p)
        then Raise 0 ∷ Look 0 ∷ Cut 0 ∷ []
        else Raise 0 ∷ Look 0 ∷ Open 0 ∷ []

-- the state after some events, with no test
abbrev pub after : Job → List (List Cell) → List Event → State → State
after job cells [] s = s
after job cells (e ∷ events) s = after job cells events (happens job cells s e)

-- the events of at most n turns of one worker
abbrev pub turns : Job → List (List Cell) → ℕ → State → List Event
turns job cells zero s = []
turns job cells (suc n) s = turn job s ++ turns job cells n (after job cells (turn job s) s)

-- the events of the search by one worker: a turn for each root's claim, and at most one for each partial
abbrev pub one_run : Job → List (List Cell) → List Event
one_run job cells = turns job cells (length job.pieces + length (partials job)) first_state

-- the event is an Open
abbrev pub is_open : Event → Bool
is_open (Open w) = true
is_open _ = false

-- the event is a Cut
abbrev pub is_cut : Event → Bool
is_cut (Cut w) = true
is_cut _ = false

-- how many partials the one worker opens
abbrev pub opens : Job → List (List Cell) → ℕ
opens job cells = count_by is_open (one_run job cells)

-- how many it cuts
abbrev pub cuts : Job → List (List Cell) → ℕ
cuts job cells = count_by is_cut (one_run job cells)
