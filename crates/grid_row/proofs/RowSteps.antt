-- Reading rows one after the other behind those that are there, as a loop does.
use Rattle.std.proofs.Common.{◌≡◌, ℕ, suc, ◌-◌, ◌+◌, ◌≤◌, ◌<◌, List, [], ◌∷◌, ◌++◌, Result, Ok, Err, refl, sym, ap, ◌∙◌, append_assoc, arith}
use Rattle.std.proofs.lemmas.List.{append-nil}
use Rattle.grid_row.specs.declared.fault.RowFault.{RowFault}
use Rattle.grid_row.specs.Reading.{◌>>=◌, row_at, rows_at}
use Rattle.grid_row.specs.Kept.{rows_behind}
use Rattle.grid_row.proofs.Fields.{ok_is}

regroup : (front : List ℕ) (n : ℕ) (read : Result (List ℕ × List ℕ) RowFault) → rows_behind front (read >>= λ x. Ok (n ∷ x.0, x.1)) ≡ rows_behind (front ++ n ∷ []) read
regroup front n (Ok x) = ap (λ (ns : List ℕ). Ok (ns, x.1)) (simp append_assoc)
regroup front n (Err f) = refl

pub goes_on : (front : List ℕ) (count i top : ℕ) (bytes : List ℕ) (n : ℕ) (after : List ℕ) (total : Result (List ℕ × List ℕ) RowFault) → i < count → row_at top bytes ≡ Ok (n, after)
    → rows_behind front (rows_at (count - i) top bytes) ≡ total → rows_behind (front ++ n ∷ []) (rows_at (count - (i + 1)) n after) ≡ total
unfolding rows_at
goes_on front count i top bytes n after total lt h so_far =
    let k : count - i ≡ suc (count - (i + 1)) = omega arith in
    let one : rows_behind front (rows_at (count - i) top bytes) ≡ rows_behind (front ++ n ∷ []) (rows_at (count - (i + 1)) n after) =
    ap (λ (m : ℕ). rows_behind front (rows_at m top bytes)) k
    ∙ ap (λ q. rows_behind front (q >>= λ (first : ℕ × List ℕ). rows_at (count - (i + 1)) first.0 first.1 >>= λ others. Ok (first.0 ∷ others.0, others.1))) h
    ∙ regroup front n (rows_at (count - (i + 1)) n after) in
    sym one ∙ so_far

pub ends : (f : RowFault) (front : List ℕ) (count i top : ℕ) (bytes : List ℕ) (whole : List ℕ) (total : Result (List ℕ × List ℕ) RowFault) → i < count → row_at top bytes ≡ Err f
    → rows_behind front (rows_at (count - i) top bytes) ≡ rows_behind whole total → total ≡ Err f
unfolding rows_at
ends f front count i top bytes whole total lt h so_far =
    let k : count - i ≡ suc (count - (i + 1)) = omega arith in
    let one : rows_behind front (rows_at (count - i) top bytes) ≡ Err f =
    ap (λ (m : ℕ). rows_behind front (rows_at m top bytes)) k
    ∙ ap (λ q. rows_behind front (q >>= λ (first : ℕ × List ℕ). rows_at (count - (i + 1)) first.0 first.1 >>= λ others. Ok (first.0 ∷ others.0, others.1))) h in
    none_behind total (sym so_far ∙ one)
  where
    none_behind : (read : Result (List ℕ × List ℕ) RowFault) → rows_behind whole read ≡ Err f → read ≡ Err f
    none_behind (Ok x) e = cc
    none_behind (Err d) e = e

pub is_done : (front : List ℕ) (count i top : ℕ) (bytes : List ℕ) (total : Result (List ℕ × List ℕ) RowFault) → count ≤ i → rows_behind front (rows_at (count - i) top bytes) ≡ total → total ≡ Ok (front, bytes)
unfolding rows_at
is_done front count i top bytes total le so_far =
    let k : count - i ≡ 0 = omega arith in
    let one : rows_behind front (rows_at (count - i) top bytes) ≡ Ok (front, bytes) = ap (λ (m : ℕ). rows_behind front (rows_at m top bytes)) k ∙ ap (λ (ns : List ℕ). Ok (ns, bytes)) (append-nil front) in
    sym so_far ∙ one

pub nothing_behind : (read : Result (List ℕ × List ℕ) RowFault) → rows_behind [] read ≡ read
nothing_behind (Ok x) = refl
nothing_behind (Err f) = refl

-- what was read behind some rows
pub record Behind (front : List ℕ) (read : Result (List ℕ × List ℕ) RowFault) (whole rest : List ℕ) : Type 0 where
  pub more : List ℕ
  pub is : read ≡ Ok (more, rest)
  pub all : whole ≡ front ++ more

pub behind_ok : (front : List ℕ) (read : Result (List ℕ × List ℕ) RowFault) (all rest : List ℕ) → rows_behind front read ≡ Ok (all, rest) → Behind front read all rest
behind_ok front (Ok x) all rest e =
    let parts : (front ++ x.0, x.1) ≡ (all, rest) = ok_is (front ++ x.0, x.1) (all, rest) e in
    record { more = x.0; is = ap (λ (r : List ℕ). Ok (x.0, r)) (ap (λ (p : List ℕ × List ℕ). p.1) parts); all = sym (ap (λ (p : List ℕ × List ℕ). p.0) parts) }
behind_ok front (Err f) all rest e = absurd cc
