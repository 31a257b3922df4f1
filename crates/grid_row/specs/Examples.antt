-- Worked examples: the rows of a country and a city, and a record of two of them as bytes.
use Rattle.std.specs.Prelude.{ℕ, ◌-◌, ◌^◌, List, [], ◌∷◌, ◌++◌, replicate}
use Rattle.grid_row.specs.declared.row.Row.{Row}
use Rattle.grid_row.specs.declared.record.Record.{Record}
use Rattle.grid_row.specs.Packed.{packed}

-- feature 2 of relevance 100 and score 9 on tile 6/32/32
abbrev pub new_york : Row
new_york = record { relev = 100; score = 9; x = 32; y = 32; id = 2 }

-- feature 1 of relevance 100 and score 0 on the tile 6/x/32
abbrev pub usa_at : ℕ → Row
usa_at x = record { relev = 100; score = 0; x = x; y = 32; id = 1 }

-- the record of feature 1 on the tiles 6/32/32 and 6/33/32, in all languages
abbrev pub usa : Record
usa = record { set = record { bits = 2 ^ 128 - 1 }; rows = packed (usa_at 33) ∷ packed (usa_at 32) ∷ [] }

abbrev pub usa_bytes : List ℕ
usa_bytes = replicate 16 0xFF ++ (2 ∷ 0 ∷ 0 ∷ 0 ∷ []) ++ (0x01 ∷ 0 ∷ 0 ∷ 0x80 ∷ 0 ∷ 0x84 ∷ 0 ∷ 0xC0 ∷ []) ++ (0x01 ∷ 0 ∷ 0 ∷ 0x80 ∷ 0 ∷ 0x80 ∷ 0 ∷ 0xC0 ∷ [])

-- the least record: no language, and the row 0
abbrev pub least_bytes : List ℕ
least_bytes = replicate 16 0 ++ (1 ∷ 0 ∷ 0 ∷ 0 ∷ []) ++ replicate 8 0
