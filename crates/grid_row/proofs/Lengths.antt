-- How long spellings are.
use Rattle.std.proofs.Common.{◌≡◌, ◌∙◌, ℕ, ◌+◌, ◌*◌, ◌≤◌, List, [], ◌∷◌, ◌++◌, length, refl, ap, arith}
use Rattle.std.specs.Int.{w32, w64, to_le_bytes}
use Rattle.std.proofs.lemmas.List.{length-append}
use Rattle.std.proofs.lemmas.List.Concat.{flat_map-cons}
use Rattle.std.proofs.lemmas.List.Sums.{sum_by-cons}
use Rattle.grid_row.specs.declared.record.Record.{Record}
use Rattle.grid_row.specs.Spelling.{set_bytes, spelling, spellings, rows_in, room_of}
use Rattle.grid_row.proofs.Records.{numbers}

rows_long : (rows : List ℕ) → length (numbers rows) ≡ 8 * length rows
rows_long [] = refl
rows_long (n ∷ ns) =
    let more = rows_long ns in
    let whole : length (numbers (n ∷ ns)) ≡ length (to_le_bytes w64 n) + length (numbers ns) = ap (length {A = ℕ}) (flat_map-cons (to_le_bytes w64) n ns) ∙ length-append (to_le_bytes w64 n) (numbers ns) in
    omega (arith, more, whole)

spelling_long : (r : Record) → length (spelling r) ≡ 20 + 8 * length r.rows
spelling_long r =
    let rows = rows_long r.rows in
    let count = length-append (to_le_bytes w32 (length r.rows)) (numbers r.rows) in
    let whole = length-append (set_bytes r.set.bits) (to_le_bytes w32 (length r.rows) ++ numbers r.rows) in
    omega (arith, rows, count, whole)

pub spelling_within : (r : Record) → length (spelling r) ≤ room_of 1 (length r.rows)
spelling_within r = let long = spelling_long r in omega (arith, long)

pub spellings_within : (rs : List Record) → length (spellings rs) ≤ room_of (length rs) (rows_in rs)
spellings_within [] = omega arith
spellings_within (r ∷ rs) =
    let here = spelling_long r in
    let more = spellings_within rs in
    let whole : length (spellings (r ∷ rs)) ≡ length (spelling r) + length (spellings rs) = ap (length {A = ℕ}) (flat_map-cons spelling r rs) ∙ length-append (spelling r) (spellings rs) in
    let rows = sum_by-cons (λ (q : Record). length q.rows) r rs in
    omega (arith, here, more, whole, rows)
