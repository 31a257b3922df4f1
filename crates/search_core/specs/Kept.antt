-- What is kept of earlier openings for later ones.
use Rattle.std.specs.Prelude.{◌≡◌, ◌-◌, ℕ, List, length, All, Contains, Option, Some, None, slice_get, slice_index_or}
use Rattle.geo_base.specs.declared.link.Link.{Link}
use Rattle.geo_base.specs.declared.cells.Cell.{Cell}
use Rattle.geo_base.specs.declared.job.Job.{Job}
use Rattle.geo_base.specs.TileView.{TileView}
use Rattle.geo_base.specs.Parents.{best_parent}
use Rattle.stackable.specs.Partial.{links_at, survivors}
use Rattle.search_core.specs.declared.fronts.Front.{Front}

-- the links that are kept for a piece: some of its own, and for each tile the best parent is the same
pub record IsReadyOf (job : Job) (cells : List (List Cell)) (piece : ℕ) (ready : List Link) : Type 0 where
  pub chosen : All (Contains (links_at job cells piece)) ready
  pub best : (t : TileView) → best_parent ready t ≡ best_parent (links_at job cells piece) t

-- the links that are kept for some of the pieces are theirs
abbrev pub AreReady : Job → List (List Cell) → List (Option (List Link)) → Type 0
AreReady job cells ready = (piece : ℕ) (links : List Link) → slice_index_or ready piece None ≡ Some links → IsReadyOf job cells piece links

-- the contexts that are kept with some partials are their survivors
abbrev pub AreFronts : Job → List (List Cell) → List Front → Type 0
AreFronts job cells fronts = All (λ f. f.survivors ≡ survivors job cells f.partial) fronts

-- the last that is kept is of these pieces
abbrev pub EndsWith : List Front → List ℕ → Type 0
EndsWith fronts pieces = (f : Front) × (slice_get fronts (length fronts - 1) ≡ Some f) × (f.partial ≡ pieces)

-- all that is kept
pub record Kept : Type 0 where
  pub fronts : List Front
  pub ready : List (Option (List Link))

-- what is kept is of this job and of these cells
pub record AreKept (job : Job) (cells : List (List Cell)) (kept : Kept) : Type 0 where
  pub fronts : AreFronts job cells kept.fronts
  pub ready : AreReady job cells kept.ready
  pub sized : length kept.ready ≡ length job.pieces
