-- For private contracts alone: the cells of pieces that were fetched.
use Rattle.std.specs.Prelude.{◌≡◌, ℕ, List, [], slice_get, slice_index_or, Option, Some}
use Rattle.geo_base.specs.declared.cells.Cell.{Cell}

-- what is kept at a piece's place are the cells of the piece
abbrev pub AreKeptCells : {X : Type 0} → (X → List Cell) → List (List Cell) → List (Option X) → Type 0
AreKeptCells {X} value cells kept = (piece : ℕ) (x : X) → slice_get kept piece ≡ Some (Some x) → value x ≡ slice_index_or cells piece []
