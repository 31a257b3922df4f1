-- What is read from the front is read there whatever follows, and so is each fault but that the bytes end.
use Rattle.std.proofs.Common.{◌≡◌, ℕ, zero, suc, ◌+◌, ◌*◌, ◌^◌, ◌≤◌, Bool, true, false, cond, ltb, eqb, ◌||◌, List, ◌∷◌, ◌++◌, length, take, drop, Result, Ok, Err, refl, sym, ap, subst, arith, inl, inr, ⊎_elim}
use Rattle.std.specs.Int.{Width, w32, w64, byte_len, from_le_bytes}
use Rattle.std.proofs.lemmas.Bool.{ltb-false, le-ltb}
use Rattle.std.proofs.lemmas.List.{take-append-le, length-append, drop-append-le}
use Rattle.grid_row.specs.declared.fault.RowFault.{RowFault}
use Rattle.grid_row.specs.declared.fault.RowFault.TheVariants as faults
use Rattle.grid_row.specs.Reading.{◌>>=◌, number_at, set_at, count_at, row_at, rows_at, record_at, Stays}

module _ (more : List ℕ) where
  fault_on : {A B : Type 0} (e : RowFault) (r : Result (A × List ℕ) RowFault) (f : A × List ℕ → Result (B × List ℕ) RowFault) → Stays {A = A} more (Err e) r → Stays {A = B} more (Err e) (r >>= f)
  fault_on e r f stays = ⊎_elim (λ (same : r ≡ Err e). inl (ap (λ q. q >>= f) same)) (λ (short : e ≡ faults.Short). inr short) stays

  bind_stays : {A B : Type 0} (r s : Result (A × List ℕ) RowFault) (f : A × List ℕ → Result (B × List ℕ) RowFault) → Stays more r s → ((x : A) (rest : List ℕ) → Stays more (f (x, rest)) (f (x, rest ++ more))) → Stays more (r >>= f) (s >>= f)
  bind_stays (Ok x) s f h k = subst (λ (q : Result _ RowFault). Stays more (f x) (q >>= f)) (sym h) (k x.0 x.1)
  bind_stays (Err e) s f h k = fault_on e s f h

  number_stays : (w : Width) (bytes : List ℕ) → Stays more (number_at w bytes) (number_at w (bytes ++ more))
  number_stays w bytes = by (ltb (length bytes) (byte_len w)) refl
    where
      by : (b : Bool) → ltb (length bytes) (byte_len w) ≡ b → Stays more (cond b (Err faults.Short) (Ok (from_le_bytes w (take (byte_len w) bytes), drop (byte_len w) bytes))) (number_at w (bytes ++ more))
      by true is = inr refl
      by false is =
          let le : byte_len w ≤ length bytes = ltb-false _ _ is in
          let long : ltb (length (bytes ++ more)) (byte_len w) ≡ false = le-ltb _ _ (omega (arith, length-append bytes more)) in
          rw (long, take-append-le (byte_len w) bytes more le, drop-append-le (byte_len w) bytes more le) refl

  set_stays : (bytes : List ℕ) → Stays more (set_at bytes) (set_at (bytes ++ more))
  unfolding set_at
  set_stays bytes = bind_stays (number_at w64 bytes) (number_at w64 (bytes ++ more)) (λ low. number_at w64 low.1 >>= λ high. Ok (low.0 + high.0 * 2 ^ 64, high.1)) (number_stays w64 bytes)
      (λ low rest. bind_stays (number_at w64 rest) (number_at w64 (rest ++ more)) (λ high. Ok (low + high.0 * 2 ^ 64, high.1)) (number_stays w64 rest) (λ high rest'. refl))

  tested : {A : Type 0} (b : Bool) (e : RowFault) (r s : Result (A × List ℕ) RowFault) → Stays more r s → Stays more (cond b (Err e) r) (cond b (Err e) s)
  tested true e r s h = inl refl
  tested false e r s h = h

  count_stays : (bytes : List ℕ) → Stays more (count_at bytes) (count_at (bytes ++ more))
  unfolding count_at
  count_stays bytes = bind_stays (number_at w32 bytes) (number_at w32 (bytes ++ more)) (λ n. cond (eqb n.0 0 || ltb 8388608 n.0) (Err faults.Count) (Ok n)) (number_stays w32 bytes)
      (λ n rest. tested (eqb n 0 || ltb 8388608 n) faults.Count (Ok (n, rest)) (Ok (n, rest ++ more)) refl)

  row_stays : (top : ℕ) (bytes : List ℕ) → Stays more (row_at top bytes) (row_at top (bytes ++ more))
  unfolding row_at
  row_stays top bytes = bind_stays (number_at w64 bytes) (number_at w64 (bytes ++ more)) (λ n. cond (eqb n.0 top) (Err faults.ZeroDifference) (cond (ltb top n.0) (Err faults.BelowZero) (Ok n))) (number_stays w64 bytes)
      (λ n rest. tested (eqb n top) faults.ZeroDifference _ _ (tested (ltb top n) faults.BelowZero (Ok (n, rest)) (Ok (n, rest ++ more)) refl))

  rows_stay : (count top : ℕ) (bytes : List ℕ) → Stays more (rows_at count top bytes) (rows_at count top (bytes ++ more))
  unfolding rows_at
  rows_stay zero top bytes = refl
  rows_stay (suc count) top bytes = bind_stays (row_at top bytes) (row_at top (bytes ++ more)) (λ first. rows_at count first.0 first.1 >>= λ others. Ok (first.0 ∷ others.0, others.1)) (row_stays top bytes)
      (λ n rest. bind_stays (rows_at count n rest) (rows_at count n (rest ++ more)) (λ others. Ok (n ∷ others.0, others.1)) (rows_stay count n rest) (λ ns rest'. refl))

  pub record_stays : (bytes : List ℕ) → Stays more (record_at bytes) (record_at (bytes ++ more))
  unfolding record_at
  record_stays bytes = bind_stays (set_at bytes) (set_at (bytes ++ more)) (λ bits. count_at bits.1 >>= λ count. rows_at count.0 (2 ^ 64) count.1 >>= λ rows. Ok (record { set = record { bits = bits.0 }; rows = rows.0 }, rows.1)) (set_stays bytes)
      (λ bits rest. bind_stays (count_at rest) (count_at (rest ++ more)) (λ count. rows_at count.0 (2 ^ 64) count.1 >>= λ rows. Ok (record { set = record { bits = bits }; rows = rows.0 }, rows.1)) (count_stays rest)
      (λ count rest'. bind_stays (rows_at count (2 ^ 64) rest') (rows_at count (2 ^ 64) (rest' ++ more)) (λ rows. Ok (record { set = record { bits = bits }; rows = rows.0 }, rows.1)) (rows_stay count (2 ^ 64) rest') (λ rows rest''. refl)))
