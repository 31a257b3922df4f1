-- Packing is one to one, and goes by relevance and score first.
use Rattle.std.proofs.Common.{◌≡◌, ◌⊎◌, ℕ, ◌<◌, ◌≤◌, ◌+◌, ◌*◌, ◌/◌, ◌%◌, ◌^◌, ap, ◌∙◌, arith}
use Rattle.grid_row.specs.declared.row.Row.{Row}
use Rattle.grid_row.specs.Packed.{IsRow, packed, unpacked}

pub packed-unpacked : (w : ℕ) → w < 2 ^ 64 → packed (unpacked w) ≡ w
packed-unpacked w fits = omega arith

pub IsRow-unpacked : (w : ℕ) → w < 2 ^ 64 → IsRow (unpacked w)
IsRow-unpacked w fits = record { relev = level (w / 2 ^ 62) (omega arith); score = omega arith; x = omega arith; y = omega arith; id = omega arith }
  where
    level : (n : ℕ) → n < 4 → (40 + 20 * n ≡ 40) ⊎ (40 + 20 * n ≡ 60) ⊎ (40 + 20 * n ≡ 80) ⊎ (40 + 20 * n ≡ 100)
    level n few = grind arith

abbrev made : ℕ → ℕ → ℕ → ℕ → ℕ → Row
made relev score x y id = record { relev = relev; score = score; x = x; y = y; id = id }

pub unpacked-packed : (r : Row) → IsRow r → unpacked (packed r) ≡ r
unpacked-packed r is =
    let w = packed r in
    let relev : 40 + 20 * (w / 2 ^ 62) ≡ r.relev = grind arith in
    let score : w / 2 ^ 58 % 2 ^ 4 ≡ r.score = grind arith in
    let x : w / 2 ^ 42 % 2 ^ 16 ≡ r.x = grind arith in
    let y : w / 2 ^ 26 % 2 ^ 16 ≡ r.y = grind arith in
    let id : w % 2 ^ 26 ≡ r.id = grind arith in
    ap (λ n. made n (w / 2 ^ 58 % 2 ^ 4) (w / 2 ^ 42 % 2 ^ 16) (w / 2 ^ 26 % 2 ^ 16) (w % 2 ^ 26)) relev
    ∙ (ap (λ n. made r.relev n (w / 2 ^ 42 % 2 ^ 16) (w / 2 ^ 26 % 2 ^ 16) (w % 2 ^ 26)) score
    ∙ (ap (λ n. made r.relev r.score n (w / 2 ^ 26 % 2 ^ 16) (w % 2 ^ 26)) x
    ∙ (ap (λ n. made r.relev r.score r.x n (w % 2 ^ 26)) y
    ∙ ap (made r.relev r.score r.x r.y) id)))

pub packed_fits : (r : Row) → IsRow r → packed r < 2 ^ 64
packed_fits r is = grind arith

-- of two rows the one that packs to the greater number has the greater relevance, or the same and no smaller score
pub packed_before : (a b : Row) → IsRow a → IsRow b → packed a < packed b → (a.relev < b.relev) ⊎ ((a.relev ≡ b.relev) × (a.score ≤ b.score))
packed_before a b is also less = grind arith
