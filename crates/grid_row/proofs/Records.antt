-- A record that is read is spelled so, and what is spelled so is read.
use Rattle.std.proofs.Common.{◌≡◌, ℕ, zero, suc, ◌+◌, ◌-◌, ◌*◌, ◌^◌, ◌<◌, ◌≤◌, List, [], ◌∷◌, ◌++◌, length, drop, Result, Ok, Err, refl, sym, ap, subst, ◌∙◌, append_assoc, arith, ◌⊎◌, inl, inr, ⊎_elim, Bool, true, false, cond, eqb, ltb, take}
use Rattle.std.specs.Prelude.{IfOk}
use Rattle.std.specs.List.{flat_map}
use Rattle.std.specs.Int.{Width, w32, w64, byte_len, from_le_bytes, to_le_bytes}
use Rattle.std.proofs.lemmas.Bool.{lt-ltb}
use Rattle.std.proofs.lemmas.List.{drop_at, length-append}
use Rattle.std.proofs.lemmas.List.Concat.{flat_map-cons}
use Rattle.geo_base.specs.declared.refusal.Refused.{Refused}
use Rattle.grid_row.specs.declared.fault.RowFault.{RowFault}
use Rattle.grid_row.specs.declared.fault.RowFault.TheVariants.{Short, Count, ZeroDifference, BelowZero}
use Rattle.grid_row.specs.declared.record.Record.{Record}
use Rattle.grid_row.specs.Rows.{FallsBelow, IsRowNumbers}
use Rattle.grid_row.specs.Spelling.{set_bytes, spelling, IsRecord}
use Rattle.grid_row.specs.Reading.{◌>>=◌, number_at, set_at, count_at, row_at, rows_at, record_at, front}
use Rattle.grid_row.specs.Kept.{Gives}
use Rattle.grid_row.proofs.Fields.{IsBytes, bind_ok, ok_is, Takes, Takes-then, set_takes, set_again, count_takes, count_again, row_takes, row_again}

abbrev pub numbers : List ℕ → List ℕ
numbers ns = flat_map (to_le_bytes w64) ns

pub rows_take : (count top : ℕ) (bytes : List ℕ) (x : List ℕ × List ℕ) → IsBytes bytes → rows_at count top bytes ≡ Ok x → Takes bytes (numbers x.0) x.1 × (length x.0 ≡ count) × FallsBelow top x.0
unfolding rows_at
rows_take zero top bytes x fits e =
    subst (λ (y : List ℕ × List ℕ). Takes bytes (numbers y.0) y.1 × (length y.0 ≡ 0) × FallsBelow top y.0) (ok_is ([], bytes) x e) (record { parts = refl; rest_fits = fits }, refl, tt)
rows_take (suc count) top bytes x fits e =
    let a = bind_ok (row_at top bytes) (λ first. rows_at count first.0 first.1 >>= λ others. Ok (first.0 ∷ others.0, others.1)) x e in
    let b = bind_ok (rows_at count a.0.0 a.0.1) (λ others. Ok (a.0.0 ∷ others.0, others.1)) x a.2 in
    let first = row_takes top bytes a.0 fits a.1 in
    let second = rows_take count a.0.0 a.0.1 b.0 first.0.rest_fits b.1 in
    let both = Takes-then bytes (to_le_bytes w64 a.0.0) a.0.1 (numbers b.0.0) b.0.1 first.0 second.0 in
    let made : List ℕ × List ℕ = (a.0.0 ∷ b.0.0, b.0.1) in
    subst (λ (y : List ℕ × List ℕ). Takes bytes (numbers y.0) y.1 × (length y.0 ≡ suc count) × FallsBelow top y.0) (ok_is made x b.2) (rw flat_map-cons both, ap suc second.1, (first.1, second.2))

pub rows_again : (top : ℕ) (rows rest : List ℕ) → top ≤ 2 ^ 64 → FallsBelow top rows → rows_at (length rows) top (numbers rows ++ rest) ≡ Ok (rows, rest)
unfolding rows_at
rows_again top [] rest within falls = refl
rows_again top (n ∷ ns) rest within falls =
    let below = falls.0 in
    let regrouped : numbers (n ∷ ns) ++ rest ≡ to_le_bytes w64 n ++ (numbers ns ++ rest) = ap (λ (x : List ℕ). x ++ rest) (flat_map-cons (to_le_bytes w64) n ns) ∙ append_assoc (to_le_bytes w64 n) (numbers ns) rest in
    let one = row_again top n (numbers ns ++ rest) below (omega arith) in
    let two = rows_again n ns rest (omega arith) falls.1 in
    ap (rows_at (suc (length ns)) top) regrouped
    ∙ ap (λ r. r >>= λ (first : ℕ × List ℕ). rows_at (length ns) first.0 first.1 >>= λ others. Ok (first.0 ∷ others.0, others.1)) one
    ∙ ap (λ r. r >>= λ (others : List ℕ × List ℕ). Ok (n ∷ others.0, others.1)) two

abbrev pub record_of : ℕ → List ℕ → Record
record_of bits rows = record { set = record { bits = bits }; rows = rows }

same_count : (bytes rest : List ℕ) (m n : ℕ) → m ≡ n → Takes bytes (to_le_bytes w32 n) rest → Takes bytes (to_le_bytes w32 m) rest
same_count bytes rest m n same t = subst (λ (k : ℕ). Takes bytes (to_le_bytes w32 k) rest) (sym same) t

pub record_takes : (bytes : List ℕ) (x : Record × List ℕ) → IsBytes bytes → record_at bytes ≡ Ok x → Takes bytes (spelling x.0) x.1 × IsRecord x.0
unfolding record_at
record_takes bytes x fits e =
    let a = bind_ok (set_at bytes) (λ bits. count_at bits.1 >>= λ count. rows_at count.0 (2 ^ 64) count.1 >>= λ rows. Ok (record_of bits.0 rows.0, rows.1)) x e in
    let b = bind_ok (count_at a.0.1) (λ count. rows_at count.0 (2 ^ 64) count.1 >>= λ rows. Ok (record_of a.0.0 rows.0, rows.1)) x a.2 in
    let c = bind_ok (rows_at b.0.0 (2 ^ 64) b.0.1) (λ rows. Ok (record_of a.0.0 rows.0, rows.1)) x b.2 in
    let t0 = set_takes bytes a.0 fits a.1 in
    let t1 = count_takes a.0.1 b.0 t0.0.rest_fits b.1 in
    let t2 = rows_take b.0.0 (2 ^ 64) b.0.1 c.0 t1.0.rest_fits c.1 in
    let len : length c.0.0 ≡ b.0.0 = t2.1 in
    let e12 = Takes-then a.0.1 (to_le_bytes w32 (length c.0.0)) b.0.1 (numbers c.0.0) c.0.1 (same_count a.0.1 b.0.1 (length c.0.0) b.0.0 len t1.0) t2.0 in
    let e02 = Takes-then bytes (set_bytes a.0.0) a.0.1 (to_le_bytes w32 (length c.0.0) ++ numbers c.0.0) c.0.1 t0.0 e12 in
    let some = t1.1.0 in
    let few = t1.1.1 in
    let rows : IsRowNumbers c.0.0 = record { some = omega (arith, len, some); few = omega (arith, len, few); falling = t2.2 } in
    let made : Record × List ℕ = (record_of a.0.0 c.0.0, c.0.1) in
    subst (λ (y : Record × List ℕ). Takes bytes (spelling y.0) y.1 × IsRecord y.0) {x = made} (ok_is made x c.2) (e02, record { set = t0.1; rows = rows })

pub record_again : (r : Record) (rest : List ℕ) → IsRecord r → record_at (spelling r ++ rest) ≡ Ok (r, rest)
unfolding record_at
record_again r rest is =
    let count = to_le_bytes w32 (length r.rows) in
    let rows = numbers r.rows in
    let regrouped : spelling r ++ rest ≡ set_bytes r.set.bits ++ (count ++ (rows ++ rest)) = append_assoc (set_bytes r.set.bits) (count ++ rows) rest ∙ ap (λ (x : List ℕ). set_bytes r.set.bits ++ x) (append_assoc count rows rest) in
    ap record_at regrouped
    ∙ ap (λ r'. r' >>= λ (bits : ℕ × List ℕ). count_at bits.1 >>= λ count. rows_at count.0 (2 ^ 64) count.1 >>= λ rows. Ok (record_of bits.0 rows.0, rows.1)) (set_again r.set.bits (count ++ (rows ++ rest)) is.set)
    ∙ ap (λ r'. r' >>= λ (count : ℕ × List ℕ). rows_at count.0 (2 ^ 64) count.1 >>= λ rows. Ok (record_of r.set.bits rows.0, rows.1)) (count_again (length r.rows) (rows ++ rest) (is.rows.some, is.rows.few))
    ∙ ap (λ r'. r' >>= λ (rows : List ℕ × List ℕ). Ok (record_of r.set.bits rows.0, rows.1)) (rows_again (2 ^ 64) r.rows rest (omega arith) is.rows.falling)

pub one_record : (a b : Record) (x y : List ℕ) → IsRecord a → IsRecord b → spelling a ++ x ≡ spelling b ++ y → (a ≡ b) × (x ≡ y)
one_record a b x y is also e =
    let same = ok_is (a, x) (b, y) (sym (record_again a x is) ∙ ap record_at e ∙ record_again b y also) in
    (ap (λ (p : Record × List ℕ). p.0) same, ap (λ (p : Record × List ℕ). p.1) same)

-- ---- the record at the front, with its length

pub front_takes : (bytes : List ℕ) (x : Record × ℕ) → IsBytes bytes → front bytes ≡ Ok x → IsRecord x.0 × (x.1 ≡ length (spelling x.0)) × (bytes ≡ spelling x.0 ++ drop x.1 bytes)
front_takes bytes x fits e =
    let a = bind_ok (record_at bytes) (λ r. Ok (r.0, length bytes - length r.1)) x e in
    let t = record_takes bytes a.0 fits a.1 in
    let text = spelling a.0.0 in
    let lens : length bytes ≡ length text + length a.0.1 = ap (length {A = ℕ}) t.0.parts ∙ length-append text a.0.1 in
    let used : length bytes - length a.0.1 ≡ length text = omega (arith, lens) in
    let rest : drop (length text) bytes ≡ a.0.1 = ap (drop (length text)) t.0.parts ∙ drop_at text a.0.1 (length text) refl in
    let whole : bytes ≡ text ++ drop (length bytes - length a.0.1) bytes = t.0.parts ∙ ap (λ (z : List ℕ). text ++ z) (sym rest ∙ ap (λ (n : ℕ). drop n bytes) (sym used)) in
    subst (λ (y : Record × ℕ). IsRecord y.0 × (y.1 ≡ length (spelling y.0)) × (bytes ≡ spelling y.0 ++ drop y.1 bytes)) (ok_is (a.0.0, length bytes - length a.0.1) x a.2) (t.1, used, whole)

pub front_again : (r : Record) (rest : List ℕ) → IsRecord r → front (spelling r ++ rest) ≡ Ok (r, length (spelling r))
front_again r rest is =
    let used : length (spelling r ++ rest) - length rest ≡ length (spelling r) = omega (arith, length-append (spelling r) rest) in
    ap (λ q. q >>= λ (p : Record × List ℕ). Ok (p.0, length (spelling r ++ rest) - length p.1)) (record_again r rest is) ∙ ap (λ (n : ℕ). Ok (r, n)) used

pub is_front : (bytes : List ℕ) (r : Result (Record × ℕ) (Refused RowFault)) → IsBytes bytes → Gives (λ x. x) r (front bytes) → IfOk r (λ x. IsRecord x.0 × (x.1 ≡ length (spelling x.0)) × (bytes ≡ spelling x.0 ++ drop x.1 bytes))
is_front bytes (Ok x) fits given = front_takes bytes x fits given
is_front bytes (Err e) fits given = tt

-- ---- a number of rows out of range is found before a row is read

bind_err : {A B : Type 0} (r : Result A RowFault) (f : A → Result B RowFault) (e : RowFault) → (r >>= f) ≡ Err e → (r ≡ Err e) ⊎ ((x : A) × (r ≡ Ok x) × (f x ≡ Err e))
bind_err (Ok x) f e is = inr (x, refl, is)
bind_err (Err d) f e is = inl cc

row_tells : (top : ℕ) (bytes : List ℕ) → row_at top bytes ≡ Err Count → ⊥
unfolding row_at
row_tells top bytes e = by (ltb (length bytes) (byte_len w64)) (from_le_bytes w64 (take (byte_len w64) bytes), drop (byte_len w64) bytes) e
  where
    tested : (a b : Bool) (n : ℕ × List ℕ) → cond a (Err ZeroDifference) (cond b (Err BelowZero) (Ok n)) ≡ Err Count → ⊥
    tested true b n is = cc
    tested false true n is = cc
    tested false false n is = cc

    by : (b : Bool) (n : ℕ × List ℕ) → (cond b (Err Short) (Ok n) >>= λ m. cond (eqb m.0 top) (Err ZeroDifference) (cond (ltb top m.0) (Err BelowZero) (Ok m))) ≡ Err Count → ⊥
    by true n is = cc
    by false n is = tested (eqb n.0 top) (ltb top n.0) n is

rows_tell : (count top : ℕ) (bytes : List ℕ) → rows_at count top bytes ≡ Err Count → ⊥
unfolding rows_at
rows_tell zero top bytes e = cc
rows_tell (suc count) top bytes e =
    ⊎_elim
    (λ (first : row_at top bytes ≡ Err Count). row_tells top bytes first)
    (λ more. ⊎_elim
    (λ (others : rows_at count more.0.0 more.0.1 ≡ Err Count). rows_tell count more.0.0 more.0.1 others)
    (λ end. cc (end.2))
    (bind_err (rows_at count more.0.0 more.0.1) (λ others. Ok (more.0.0 ∷ others.0, others.1)) Count more.2))
    (bind_err (row_at top bytes) (λ first. rows_at count first.0 first.1 >>= λ others. Ok (first.0 ∷ others.0, others.1)) Count e)

abbrev made : ℕ → List ℕ × List ℕ → Result (Record × List ℕ) RowFault
made bits rows = Ok (record_of bits rows.0, rows.1)

after_parts : (bytes : List ℕ) (bits : ℕ) (behind : List ℕ) (count : ℕ) (rest : List ℕ) → set_at bytes ≡ Ok (bits, behind) → count_at behind ≡ Ok (count, rest) → record_at bytes ≡ (rows_at count (2 ^ 64) rest >>= made bits)
unfolding record_at
after_parts bytes bits behind count rest set counted =
    ap (λ r. r >>= λ (bits : ℕ × List ℕ). count_at bits.1 >>= λ count. rows_at count.0 (2 ^ 64) count.1 >>= made bits.0) set
    ∙ ap (λ r. r >>= λ (count : ℕ × List ℕ). rows_at count.0 (2 ^ 64) count.1 >>= made bits) counted

pub count_comes_first : (bytes : List ℕ) (bits : ℕ) (behind : List ℕ) (count : ℕ) (rest : List ℕ) → set_at bytes ≡ Ok (bits, behind) → count_at behind ≡ Ok (count, rest) → record_at bytes ≡ Err Count → ⊥
count_comes_first bytes bits behind count rest set counted e =
    ⊎_elim
    (λ (rows : rows_at count (2 ^ 64) rest ≡ Err Count). rows_tell count (2 ^ 64) rest rows)
    (λ end. let bad : made bits end.0 ≡ Err Count = end.2 in cc)
    (bind_err (rows_at count (2 ^ 64) rest) (made bits) Count (sym (after_parts bytes bits behind count rest set counted) ∙ e))

-- ---- and so is that there are fewer bytes than a set and a number of rows take

number_faults : (w : Width) (bytes : List ℕ) (f : RowFault) → number_at w bytes ≡ Err f → f ≡ Short
number_faults w bytes f e = by (ltb (length bytes) (byte_len w)) (from_le_bytes w (take (byte_len w) bytes), drop (byte_len w) bytes) e
  where
    by : (b : Bool) (n : ℕ × List ℕ) → cond b (Err Short) (Ok n) ≡ Err f → f ≡ Short
    by true n is = cc
    by false n is = absurd cc

pub set_faults : (bytes : List ℕ) (f : RowFault) → set_at bytes ≡ Err f → f ≡ Short
unfolding set_at
set_faults bytes f e =
    ⊎_elim
    (λ (low : number_at w64 bytes ≡ Err f). number_faults w64 bytes f low)
    (λ more. ⊎_elim
    (λ (high : number_at w64 more.0.1 ≡ Err f). number_faults w64 more.0.1 f high)
    (λ end. absurd (cc (end.2)))
    (bind_err (number_at w64 more.0.1) (λ high. Ok (more.0.0 + high.0 * 2 ^ 64, high.1)) f more.2))
    (bind_err (number_at w64 bytes) (λ low. number_at w64 low.1 >>= λ high. Ok (low.0 + high.0 * 2 ^ 64, high.1)) f e)

set_length : (bytes : List ℕ) (bits : ℕ) (behind : List ℕ) → IsBytes bytes → set_at bytes ≡ Ok (bits, behind) → length bytes ≡ 16 + length behind
set_length bytes bits behind fits set =
    ap (length {A = ℕ}) (set_takes bytes (bits, behind) fits set).0.parts ∙ length-append (set_bytes bits) behind

pub count_faults : (bytes : List ℕ) (bits : ℕ) (behind : List ℕ) (f : RowFault) → IsBytes bytes → set_at bytes ≡ Ok (bits, behind) → count_at behind ≡ Err f → length bytes < 20 → f ≡ Short
unfolding count_at
count_faults bytes bits behind f fits set counted less =
    let long = set_length bytes bits behind fits set in
    let short : ltb (length behind) (byte_len w32) ≡ true = lt-ltb _ _ (omega (arith, long, less)) in
    let none : count_at behind ≡ Err Short = rw short refl in
    cc

pub short_comes_first : (bytes : List ℕ) (bits : ℕ) (behind : List ℕ) (count : ℕ) (rest : List ℕ) → IsBytes bytes → set_at bytes ≡ Ok (bits, behind) → count_at behind ≡ Ok (count, rest) → length bytes < 20 → ⊥
short_comes_first bytes bits behind count rest fits set counted less =
    let long = set_length bytes bits behind fits set in
    let t = set_takes bytes (bits, behind) fits set in
    let more : length behind ≡ 4 + length rest = ap (length {A = ℕ}) (count_takes behind (count, rest) t.0.rest_fits counted).0.parts ∙ length-append (to_le_bytes w32 count) rest in
    omega (arith, long, more, less)

-- the record of its parts
pub of_parts : (bytes : List ℕ) (bits : ℕ) (behind : List ℕ) (count : ℕ) (rest : List ℕ) (rows last : List ℕ) → set_at bytes ≡ Ok (bits, behind) → count_at behind ≡ Ok (count, rest) → rows_at count (2 ^ 64) rest ≡ Ok (rows, last)
    → record_at bytes ≡ Ok (record_of bits rows, last)
of_parts bytes bits behind count rest rows last set counted read = after_parts bytes bits behind count rest set counted ∙ ap (λ r. r >>= made bits) read
