-- For private contracts alone: what a call answers by a reading, and how a list of records is kept, all rows in one list and where those of each record end.
use Rattle.std.specs.Prelude.{◌≡◌, ℕ, zero, suc, ◌≤◌, List, [], ◌∷◌, ◌++◌, slice_range, Result, Ok, Err}
use denote.Ref.{Bor}
use Rattle.geo_base.specs.declared.refusal.Refused.{Refused}
use Rattle.geo_base.specs.declared.refusal.Refused.TheVariants as refused
use Rattle.grid_row.specs.declared.fault.RowFault.{RowFault}
use Rattle.grid_row.specs.declared.record.Record.{Record}
use Rattle.grid_row.specs.declared.row_list.RecordEnd.{RecordEnd}
use Rattle.grid_row.specs.Reading.{◌>>=◌}

-- a value and the bytes after it, or a fault, as readings have them
abbrev pub seen : {Y : Type 0} → Result (Y × Bor (List ℕ)) RowFault → Result (Y × List ℕ) RowFault
seen (Ok x) = Ok (x.0, x.1.now)
seen (Err f) = Err f

-- a refusal is the fault of the reading, unless memory was refused
abbrev pub Fails : {Y : Type 0} → Refused RowFault → Result Y RowFault → Type 0
Fails refused.Memory read = Unit {0}
Fails (refused.Fault f) read = read ≡ Err f

-- what was answered, seen by `view`, is what the reading gives, unless memory was refused
abbrev pub Gives : {X Y : Type 0} → (X → Y) → Result X (Refused RowFault) → Result Y RowFault → Type 0
Gives view (Ok x) read = read ≡ Ok (view x)
Gives view (Err e) read = Fails e read

-- rows that are there, and those that are read behind them
abbrev pub rows_behind : List ℕ → Result (List ℕ × List ℕ) RowFault → Result (List ℕ × List ℕ) RowFault
rows_behind front read = read >>= λ x. Ok (front ++ x.0, x.1)

-- records that are there, and those that are read behind them
abbrev pub records_behind : List Record → Result (List Record) RowFault → Result (List Record) RowFault
records_behind front read = read >>= λ rs. Ok (front ++ rs)

-- the records whose rows end at these places, the first of which begins at `from`
abbrev pub kept_records : ℕ → List RecordEnd → List ℕ → List Record
kept_records from [] rows = []
kept_records from (e ∷ ends) rows = record { set = e.set; rows = slice_range rows from e.end } ∷ kept_records e.end ends rows

-- the place of the first row of the k-th of them
abbrev pub kept_start : ℕ → List RecordEnd → ℕ → ℕ
kept_start from ends zero = from
kept_start from [] (suc k) = from
kept_start from (e ∷ ends) (suc k) = kept_start e.end ends k

-- the places rise from `from` to the end of the rows
abbrev pub RiseTo : ℕ → ℕ → List RecordEnd → Type 0
RiseTo total from [] = from ≡ total
RiseTo total from (e ∷ ends) = (from ≤ e.end) × RiseTo total e.end ends
