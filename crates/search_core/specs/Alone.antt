-- The search by one worker, and what it has still to do.
use Rattle.std.specs.Prelude.{ℕ, Bool, true, false, ◌+◌, ◌-◌, List, ◌∷◌, length, drop, replicate, sum_by}
use Rattle.geo_base.specs.declared.cells.Cell.{Cell}
use Rattle.geo_base.specs.declared.job.Job.{Job}
use Rattle.geo_base.specs.Chain.{chains}
use Rattle.stackable.specs.Partial.{piece_below, candidates, roots}
use Rattle.search_core.specs.Machine.{WorkerState, State, idle_worker, first_state, one_run, after}

-- a state in which one worker works, and seven do nothing
abbrev pub alone : ℕ → ℕ → WorkerState → State
alone next floor w = record { next = next; floor = floor; workers = w ∷ replicate 7 idle_worker }

-- how many partials begin with these pieces
abbrev pub tree_size : Job → List ℕ → ℕ
tree_size job partial = 1 + length (chains (piece_below job) (16 - length partial) (candidates job partial))

-- at most so many turns are left: one for each partial in the trees of the stack and of the roots that are left, and one for each of these roots
abbrev pub turns_left : Job → ℕ → List (List ℕ) → ℕ
turns_left job next stack = sum_by (tree_size job) stack + sum_by (λ r. 1 + tree_size job r) (drop next (roots job))

-- the state at the end of the search by one worker
abbrev pub last_state : Job → List (List Cell) → State
last_state job cells = after job cells (one_run job cells) first_state

-- 1 where something is so, else 0: what a turn adds to a count
abbrev pub one_if : Bool → ℕ
one_if true = 1
one_if false = 0
