-- Rows of a grid, and the number that each packs to.
use Rattle.std.specs.Prelude.{◌≡◌, ◌⊎◌, ℕ, ◌<◌, ◌+◌, ◌*◌, ◌-◌, ◌/◌, ◌%◌, ◌^◌}
use Rattle.grid_row.specs.declared.row.Row.{Row}

-- what can be packed: a relevance of 40, 60, 80 or 100, a score below 16, a column and a row below 2^16, an id below 2^26
pub record IsRow (r : Row) : Type 0 where
  pub relev : (r.relev ≡ 40) ⊎ (r.relev ≡ 60) ⊎ (r.relev ≡ 80) ⊎ (r.relev ≡ 100)
  pub score : r.score < 16
  pub x : r.x < 2 ^ 16
  pub y : r.y < 2 ^ 16
  pub id : r.id < 2 ^ 26

-- 64 bits, from the top: the level of the relevance in 2 (0 to 3 for 40, 60, 80, 100), the score in 4, x in 16, y in 16, the id in 26
abbrev pub packed : Row → ℕ
packed r = (r.relev / 20 - 2) * 2 ^ 62 + r.score * 2 ^ 58 + r.x * 2 ^ 42 + r.y * 2 ^ 26 + r.id

-- the row that packs to a number of 64 bits
abbrev pub unpacked : ℕ → Row
unpacked w = record { relev = 40 + 20 * (w / 2 ^ 62); score = w / 2 ^ 58 % 2 ^ 4; x = w / 2 ^ 42 % 2 ^ 16; y = w / 2 ^ 26 % 2 ^ 16; id = w % 2 ^ 26 }
