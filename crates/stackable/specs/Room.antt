-- For private contracts alone: what a partial leaves to pieces below it, as bits.
use Rattle.std.specs.Prelude.{◌≡◌, ℕ, Bool, ◌-◌, ◌^◌, ◌<◌, ◌&&◌, ◌==◌, List, length}
use Rattle.std.specs.List.{list_all}
use Rattle.std.specs.Int.{bit_at}
use Rattle.std.specs.Int.RustNames.{bit_and}
use Rattle.geo_base.specs.declared.job.Piece.{Piece}
use Rattle.geo_base.specs.declared.job.Job.{Job}
use Rattle.stackable.specs.Partial.{piece_at, piece_below}

-- the bit t of the number is set
abbrev pub has_bit : ℕ → ℕ → Bool
has_bit n t = bit_at n t == 1

-- the tokens of a piece's run, as bits
abbrev pub run_bits : Piece → ℕ
run_bits p = 2 ^ p.to - 2 ^ p.from

-- the piece's layer is one of these, and its run has none of the tokens taken
abbrev pub admits : ℕ → ℕ → Piece → Bool
admits taken layers q = has_bit layers q.layer && bit_and taken (run_bits q) == 0

-- of the pieces of the job, those with such a layer and none of the tokens taken are the ones that may stand below each piece of the partial
abbrev pub IsRoom : Job → List ℕ → ℕ → ℕ → Type 0
IsRoom job partial taken layers = (k : ℕ) → k < length job.pieces → admits taken layers (piece_at job k) ≡ list_all (λ j. piece_below job j k) partial
