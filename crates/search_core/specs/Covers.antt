-- Good states of the search machine: nothing is lost.
use Rattle.std.specs.Prelude.{◌≡◌, ◌≢◌, ℕ, false, ◌<◌, ◌≤◌, List, length, flat_map, All, AllPairs, Contains, slice_get, Some}
use Rattle.geo_base.specs.declared.link.Link.{Link}
use Rattle.geo_base.specs.declared.cells.Cell.{Cell}
use Rattle.geo_base.specs.declared.job.Job.{Job}
use Rattle.geo_base.specs.Order.{key_of, context_cmp, same_target, IsBefore}
use Rattle.geo_base.specs.Best.{IsSettled}
use Rattle.geo_base.specs.Job.{IsJobContext, IsSound}
use Rattle.stackable.specs.Partial.{IsPartial, IsUnder, roots}
use Rattle.search_core.specs.Machine.{WorkerState, State, worker_at}

-- a context isn't lost to a worker: it lies under a partial on its stack, or it is settled by the worker's list, or its key is below the floor that the worker has seen
pub data IsKept (job : Job) (cells : List (List Cell)) (w : WorkerState) (c : List Link) : Type 0 where
  On_stack : (p : List ℕ) → Contains w.stack p → IsUnder job cells p c → IsKept job cells w c
  In_list : IsSettled context_cmp same_target 40 w.top c → IsKept job cells w c
  Below_floor : key_of c < w.seen → IsKept job cells w c

-- a worker covers its roots: no context under a root that it claimed is lost
abbrev pub Covers : Job → List (List Cell) → WorkerState → Type 0
Covers job cells w = (k : ℕ) (root : List ℕ) → Contains w.claims k → slice_get (roots job) k ≡ Some root → (c : List Link) → IsUnder job cells root c → IsKept job cells w c

-- a worker's list: at most 40 contexts of the job, one per target, in order
pub record IsTop (job : Job) (cells : List (List Cell)) (top : List (List Link)) : Type 0 where
  pub few : length top ≤ 40
  pub contexts : All (IsJobContext job cells) top
  pub in_order : AllPairs IsBefore top
  pub one_each : AllPairs (λ a b. same_target a b ≡ false) top

-- a good worker: it covers its roots, its list and its floor are sound, and its stack has partials
pub record IsGoodWorker (job : Job) (cells : List (List Cell)) (w : WorkerState) : Type 0 where
  pub covered : Covers job cells w
  pub seen : IsSound job cells w.seen
  pub top : IsTop job cells w.top
  pub stack : All (IsPartial job) w.stack

-- a good state: its workers are good, its floor is sound, and each root below the next is claimed
pub record IsGood (job : Job) (cells : List (List Cell)) (s : State) : Type 0 where
  pub workers : All (IsGoodWorker job cells) s.workers
  pub floor : IsSound job cells s.floor
  pub claimed : (k : ℕ) (root : List ℕ) → k < s.next → slice_get (roots job) k ≡ Some root → (i : ℕ) × (i < length s.workers) × Contains (worker_at s i).claims k

-- no root is claimed twice
abbrev pub ClaimsAreDistinct : State → Type 0
ClaimsAreDistinct s = AllPairs (λ j k. j ≢ k) (flat_map (λ w. w.claims) s.workers)
