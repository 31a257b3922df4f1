-- How records are spelled as bytes.
use Rattle.std.specs.Prelude.{ℕ, ◌<◌, ◌+◌, ◌*◌, ◌/◌, ◌%◌, ◌^◌, List, ◌++◌, length, sum_by}
use Rattle.std.specs.List.{flat_map, AllByRecursion}
use Rattle.std.specs.Int.{w32, w64, to_le_bytes}
use Rattle.grid_row.specs.declared.record.Record.{Record}
use Rattle.grid_row.specs.Rows.{IsRowNumbers}

-- a set of languages in 16 bytes, the low byte first: its low 64 bits and its high 64 bits
abbrev pub set_bytes : ℕ → List ℕ
set_bytes bits = to_le_bytes w64 (bits % 2 ^ 64) ++ to_le_bytes w64 (bits / 2 ^ 64)

-- a record: its set in 16 bytes, the number of its rows in 4, and each row in 8, the low byte first
abbrev pub spelling : Record → List ℕ
spelling r = set_bytes r.set.bits ++ (to_le_bytes w32 (length r.rows) ++ flat_map (to_le_bytes w64) r.rows)

-- what has a spelling: a set of 128 bits, and 1 to 8,388,608 rows of 64 bits, strictly falling
pub record IsRecord (r : Record) : Type 0 where
  pub set : r.set.bits < 2 ^ 128
  pub rows : IsRowNumbers r.rows

abbrev pub AreRecords : List Record → Type 0
AreRecords rs = AllByRecursion IsRecord rs

-- records one after another
abbrev pub spellings : List Record → List ℕ
spellings rs = flat_map spelling rs

-- the rows of some records, all together
abbrev pub rows_in : List Record → ℕ
rows_in rs = sum_by (λ r. length r.rows) rs

-- the most bytes of so many records with so many rows
abbrev pub room_of : ℕ → ℕ → ℕ
room_of records rows = 20 * records + 8 * rows
