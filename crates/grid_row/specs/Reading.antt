-- Reading records from left to right, and the first rule that is broken.
use Rattle.std.specs.Prelude.{◌≡◌, ◌⊎◌, ℕ, zero, suc, ◌+◌, ◌-◌, ◌*◌, ◌^◌, ◌||◌, List, [], ◌∷◌, ◌++◌, length, take, drop, Result, Ok, Err, nat_lt, ◌==◌, if◌then◌else◌}
use Rattle.std.specs.Int.{Width, w32, w64, byte_len, from_le_bytes}
use Rattle.grid_row.specs.declared.fault.RowFault.{RowFault}
use Rattle.grid_row.specs.declared.fault.RowFault.TheVariants.{Short, Count, ZeroDifference, BelowZero}
use Rattle.grid_row.specs.declared.record.Record.{Record}

infixl 10 ◌>>=◌
abbrev pub ◌>>=◌ : {A B : Type 0} → Result A RowFault → (A → Result B RowFault) → Result B RowFault
(Ok x) >>= f = f x
(Err e) >>= f = Err e

-- a number of so many bytes, the low byte first, and the bytes after it
abbrev pub number_at : Width → List ℕ → Result (ℕ × List ℕ) RowFault
number_at w bytes = if nat_lt (length bytes) (byte_len w) then Err Short else Ok (from_le_bytes w (take (byte_len w) bytes), drop (byte_len w) bytes)

-- a set of 128 bits
unfoldable pub set_at : List ℕ → Result (ℕ × List ℕ) RowFault
set_at bytes = do
  low ← number_at w64 bytes
  high ← number_at w64 low.1
  Ok (low.0 + high.0 * 2 ^ 64, high.1)

-- a number of rows from 1 to 8,388,608
unfoldable pub count_at : List ℕ → Result (ℕ × List ℕ) RowFault
count_at bytes = do
  n ← number_at w32 bytes
  if n.0 == 0 || nat_lt 8388608 n.0 then Err Count else Ok n

-- a row that has to lie below `top`
unfoldable pub row_at : ℕ → List ℕ → Result (ℕ × List ℕ) RowFault
row_at top bytes = do
  n ← number_at w64 bytes
  if n.0 == top then Err ZeroDifference else (if nat_lt top n.0 then Err BelowZero else Ok n)

-- so many rows, the first below `top` and each other one below the one before it
unfoldable pub rows_at : ℕ → ℕ → List ℕ → Result (List ℕ × List ℕ) RowFault
rows_at zero top bytes = Ok ([], bytes)
rows_at (suc count) top bytes = do
  first ← row_at top bytes
  others ← rows_at count first.0 first.1
  Ok (first.0 ∷ others.0, others.1)

-- the record at the front, and the bytes after it; no row of 64 bits is too great for the first place
unfoldable pub record_at : List ℕ → Result (Record × List ℕ) RowFault
record_at bytes = do
  bits ← set_at bytes
  count ← count_at bits.1
  rows ← rows_at count.0 (2 ^ 64) count.1
  Ok (record { set = record { bits = bits.0 }; rows = rows.0 }, rows.1)

-- the record at the front, and how many bytes it takes
abbrev pub front : List ℕ → Result (Record × ℕ) RowFault
front bytes = record_at bytes >>= λ r. Ok (r.0, length bytes - length r.1)

-- at most n records, to the end of the bytes
unfoldable pub records_at : ℕ → List ℕ → Result (List Record) RowFault
records_at n [] = Ok []
records_at zero (b ∷ bytes) = Err Short
records_at (suc n) (b ∷ bytes) = do
  first ← record_at (b ∷ bytes)
  others ← records_at n first.1
  Ok (first.0 ∷ others)

-- the records to the end of the bytes: each takes a byte at least, so there are no more of them than bytes
unfoldable pub decoding : List ℕ → Result (List Record) RowFault
decoding bytes = records_at (length bytes) bytes

-- what is read where more bytes follow: the same, and `more` is left behind it; or the same fault, unless it is that the bytes end
abbrev pub Stays : {A : Type 0} → List ℕ → Result (A × List ℕ) RowFault → Result (A × List ℕ) RowFault → Type 0
Stays more (Ok x) read = read ≡ Ok (x.0, x.1 ++ more)
Stays more (Err e) read = (read ≡ Err e) ⊎ (e ≡ Short)
