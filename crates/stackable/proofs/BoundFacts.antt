-- The bound of a partial is no smaller than the key of any context under it.
use Rattle.std.proofs.Common.{◌≡◌, ℕ, zero, suc, ◌+◌, ◌-◌, ◌*◌, ◌<◌, ◌≤◌, min, Bool, true, false, not, cond, ◌&&◌, ⊎_elim, List, [], ◌∷◌, ◌++◌, length, get_or, All, refl, sym, ◌∙◌, ap, subst, arith}
use Rattle.std.specs.Prelude.{AllPairs, Contains, nat_lt, nat_le, sum_by, count_by}
use Rattle.std.specs.List.{AllZip, list_all, list_any}
use Rattle.std.proofs.lemmas.Bool.{and_parts, and_from, and_cases, or_cases, cases_Bool, ltb-true, ltb-false, leb-true, leb-false, or_left, or_right, and_right, le-ltb, lt-leb, lt-ltb, le-leb}
use Rattle.std.proofs.lemmas.List.Elements.{All-contains, Contains-append_right}
use Rattle.std.proofs.lemmas.List.Sums.{sum_by-cons, sum_by-append, sum_by_push}
use Rattle.geo_base.specs.declared.link.Link.{Link}
use Rattle.geo_base.specs.declared.cells.Cell.{Cell}
use Rattle.geo_base.specs.declared.job.Piece.{Piece}
use Rattle.geo_base.specs.declared.job.Job.{Job}
use Rattle.geo_base.specs.Link.{stacks, admits_below, are_disjoint}
use Rattle.geo_base.specs.Tile.{holds}
use Rattle.geo_base.specs.Order.{key_of, target_score}
use Rattle.geo_base.specs.Job.{job_compat, cell_link, links_of, IsPieceOf, IsCellOf, Fits}
use Rattle.stackable.specs.Partial.{no_piece, piece_at, links_at, numbers_below, piece_numbers, piece_below, candidates, has_token, open_tokens, root_score, bound, IsUnder}
use Rattle.geo_base.proofs.Members.{member_here, member_there, member_cases, no_member, member_of_map, member_in_filter, pairs_head, pairs_tail}
use Rattle.stackable.proofs.UnderFacts.{piece_of_link, number_below, below_each}

pub count-suc : (p : ℕ → Bool) (n : ℕ) → count_by p (numbers_below (suc n)) ≡ count_by p (numbers_below n) + cond (p n) 1 0
count-suc p n = sum_by_push (λ t. cond (p t) 1 0) (numbers_below n) n

abbrev tick : Bool → ℕ
tick b = cond b 1 0

-- a run has as many tokens as it is long
run_count : (from to n : ℕ) → count_by (λ t. nat_le from t && nat_lt t to) (numbers_below n) ≡ min to n - from
run_count from to zero = omega arith
run_count from to (suc n) =
    count-suc (λ t. nat_le from t && nat_lt t to) n ∙
    ⊎_elim
    (λ yes. let both = and_parts (nat_le from n) (nat_lt n to) yes in
    let one : tick (nat_le from n && nat_lt n to) ≡ 1 = rw yes refl in
    omega (arith, run_count from to n, one, leb-true from n both.0, ltb-true n to both.1))
    (λ no. let none : tick (nat_le from n && nat_lt n to) ≡ 0 = rw no refl in
    ⊎_elim
    (λ e. omega (arith, run_count from to n, none, leb-false from n e))
    (λ e. omega (arith, run_count from to n, none, ltb-false n to e))
    (and_cases (nat_le from n) (nat_lt n to) no))
    (cases_Bool (nat_le from n && nat_lt n to))

-- two counts that take nothing twice
two_counts : (p q r : ℕ → Bool) → ((t : ℕ) → cond (p t) 1 0 + cond (q t) 1 0 ≤ cond (r t) 1 0) → (n : ℕ) → count_by p (numbers_below n) + count_by q (numbers_below n) ≤ count_by r (numbers_below n)
two_counts p q r h zero = omega arith
two_counts p q r h (suc n) = omega (arith, count-suc p n, count-suc q n, count-suc r n, h n, two_counts p q r h n)

split_yes : (r p : Bool) → r ≡ true → p ≡ true → cond r 1 0 + cond (p && not r) 1 0 ≤ cond p 1 0
split_yes r p e f = rw (e, f) (omega arith)

split_no : (r p : Bool) → r ≡ false → cond r 1 0 + cond (p && not r) 1 0 ≤ cond p 1 0
split_no r true e = rw e (omega arith)
split_no r false e = rw e (omega arith)

-- a token of one run is none of a disjoint one
not_in : (l m : Link) (t : ℕ) → are_disjoint l m ≡ true → m.from ≤ t → t < m.to → not (nat_le l.from t && nat_lt t l.to) ≡ true
not_in l m t apart low high =
    ⊎_elim
    (λ before. rw (le-ltb t l.to (omega (arith, low, leb-true l.to m.from before)), and_right (nat_le l.from t) false refl) refl)
    (λ after. rw (lt-leb l.from t (omega (arith, high, leb-true m.to l.from after))) refl)
    (or_cases (nat_le l.to m.from) (nat_le m.to l.from) apart)

-- disjoint runs of passing numbers are no longer together than there are such numbers
runs_fit : (n : ℕ) (ls : List Link) (p : ℕ → Bool) → AllPairs (λ a b. are_disjoint a b ≡ true) ls → ((l : Link) → Contains ls l → l.to ≤ n) → ((l : Link) → Contains ls l → (t : ℕ) → l.from ≤ t → t < l.to → p t ≡ true) → sum_by (λ l. l.to - l.from) ls ≤ count_by p (numbers_below n)
runs_fit n [] p apart short pass = omega arith
runs_fit n (l ∷ ls) p apart short pass =
    let q : ℕ → Bool = λ t. p t && not (nat_le l.from t && nat_lt t l.to) in
    let r : ℕ → Bool = λ t. nat_le l.from t && nat_lt t l.to in
    let pointwise : (t : ℕ) → cond (r t) 1 0 + cond (q t) 1 0 ≤ cond (p t) 1 0 = λ t.
    ⊎_elim
    (λ yes. let both = and_parts (nat_le l.from t) (nat_lt t l.to) yes in
    let passes : p t ≡ true = pass l (member_here l ls) t (leb-true l.from t both.0) (ltb-true t l.to both.1) in
    split_yes (r t) (p t) yes passes)
    (λ no. split_no (r t) (p t) no)
    (cases_Bool (r t)) in
    let ih : sum_by (λ m. m.to - m.from) ls ≤ count_by q (numbers_below n) = runs_fit n ls q (pairs_tail (λ a b. are_disjoint a b ≡ true) l ls apart)
    (λ m c. short m (member_there l m ls c))
    (λ m c t low high. and_from (p t) (not (r t)) (pass m (member_there l m ls c) t low high)
    (not_in l m t (All-contains (λ b. are_disjoint l b ≡ true) ls m (pairs_head (λ a b. are_disjoint a b ≡ true) l ls apart) c) low high)) in
    let within = short l (member_here l ls) in
    omega (arith, sum_by-cons (λ m. m.to - m.from) l ls, ih, two_counts r q p pointwise n, run_count l.from l.to n, within)

-- a cell's link: what it adds to a key is at most what its piece may add
record IsSmall (p : Piece) (l : Link) : Type 0 where
  value : l.value ≤ p.top_value
  with_score : 16 * l.value + l.score ≤ 16 * p.top_value + p.top_score
  by_run : l.value ≤ (l.to - l.from) * 10000
  layer : l.layer ≡ p.layer
  from : l.from ≡ p.from
  to : l.to ≡ p.to

cells_at : (pieces : List Piece) (cells : List (List Cell)) (k : ℕ) → AllZip (λ p c. All (IsCellOf p) c) pieces cells → All (IsCellOf (get_or pieces k no_piece)) (get_or cells k [])
cells_at [] [] k z = λ i d l. absurd (omega (arith, l))
cells_at [] (c ∷ cells) k z = absurd z
cells_at (p ∷ pieces) [] k z = absurd z
cells_at (p ∷ pieces) (c ∷ cells) zero z = z.0
cells_at (p ∷ pieces) (c ∷ cells) (suc k) z = cells_at pieces cells k z.1

small_cell : (p : Piece) (c : Cell) → IsCellOf p c → IsSmall p (cell_link p c)
small_cell p c is = record {
  value = ⊎_elim (λ less. omega (arith, less)) (λ t. omega (arith, t.0)) is.top;
  with_score = ⊎_elim (λ less. omega (arith, less, is.score)) (λ t. omega (arith, t.0, t.1)) is.top;
  by_run = is.value;
  layer = refl;
  from = refl;
  to = refl;
}

module _ (job : Job) (cells : List (List Cell)) (fits : Fits job cells) where
  small_link : (k : ℕ) (l : Link) → Contains (links_at job cells k) l → IsSmall (piece_at job k) l
  small_link k l h =
      let c = member_of_map (cell_link (piece_at job k)) (get_or cells k []) l h in
      subst (IsSmall (piece_at job k)) c.2 (small_cell (piece_at job k) c.0 (All-contains (IsCellOf (piece_at job k)) (get_or cells k []) c.0 (cells_at job.pieces cells k fits.of_pieces) c.1))

  front_value : (partial : List ℕ) (front : List Link) → AllZip (λ k l. Contains (links_at job cells k) l) partial front → sum_by (λ l. l.value) front ≤ sum_by (λ k. (piece_at job k).top_value) partial
  front_value [] [] z = omega arith
  front_value [] (a ∷ front) z = absurd z
  front_value (k ∷ partial) [] z = absurd z
  front_value (k ∷ partial) (a ∷ front) z =
      omega (arith, sum_by-cons (λ (l : Link). l.value) a front, sum_by-cons (λ j. (piece_at job j).top_value) k partial, (small_link k a z.0).value, front_value partial front z.1)

  rest_value : (rest : List Link) → ((l : Link) → Contains rest l → l.value ≤ (l.to - l.from) * 10000) → sum_by (λ l. l.value) rest ≤ sum_by (λ l. l.to - l.from) rest * 10000
  rest_value [] h = omega arith
  rest_value (l ∷ rest) h = omega (arith, sum_by-cons (λ (m : Link). m.value) l rest, sum_by-cons (λ (m : Link). m.to - m.from) l rest, h l (member_here l rest), rest_value rest (λ m c. h m (member_there l m rest c)))

  any_from_member : (p : ℕ → Bool) (ks : List ℕ) (k : ℕ) → Contains ks k → p k ≡ true → list_any p ks ≡ true
  any_from_member p [] k c e = absurd (no_member k c)
  any_from_member p (j ∷ ks) k c e =
      ⊎_elim
      (λ s. or_left (p j) (list_any p ks) (ap p s ∙ e))
      (λ t. or_right (p j) (list_any p ks) (any_from_member p ks k t e))
      (member_cases j k ks c)

  apart_from_stacked : (ls : List Link) → AllPairs (λ a b. stacks (job_compat job) a b ≡ true) ls → AllPairs (λ a b. are_disjoint a b ≡ true) ls
  apart_from_stacked ls h i j d l m =
      let a = get_or ls i d in
      let b = get_or ls j d in
      let outer = and_parts (admits_below a b) (job_compat job a.layer b.layer) (h i j d l m) in
      let inner = and_parts (nat_lt b.layer a.layer && are_disjoint a b) (holds b.tile a.tile) outer.0 in
      (and_parts (nat_lt b.layer a.layer) (are_disjoint a b) inner.0).1

  pairs_of_rest : (R : Link → Link → Type 0) (front rest : List Link) → AllPairs R (front ++ rest) → AllPairs R rest
  pairs_of_rest R [] rest h = h
  pairs_of_rest R (a ∷ front) rest h = pairs_of_rest R front rest (pairs_tail R a (front ++ rest) h)

  -- one link of the front, one of the rest
  across : (R : Link → Link → Type 0) (front rest : List Link) (a l : Link) → AllPairs R (front ++ rest) → Contains front a → Contains rest l → R a l
  across R [] rest a l h in_front in_rest = absurd (no_member a in_front)
  across R (b ∷ front) rest a l h in_front in_rest =
      ⊎_elim
      (λ e. subst (λ z. R z l) e (All-contains (R b) (front ++ rest) l (pairs_head R b (front ++ rest) h) (Contains-append_right front rest l in_rest)))
      (λ t. across R front rest a l (pairs_tail R b (front ++ rest) h) t in_rest)
      (member_cases b a front in_front)

  -- what is known of a link behind the front: its piece is a candidate
  record IsOpen (partial : List ℕ) (l : Link) : Type 0 where
    piece : ℕ
    candidate : Contains (candidates job partial) piece
    small : IsSmall (piece_at job piece) l
    within : l.to ≤ job.tokens

  open_link : (partial : List ℕ) (c : List Link) (u : IsUnder job cells partial c) (l : Link) → Contains u.rest l → IsOpen partial l
  open_link partial c u l h =
      let in_c : Contains c l = subst (λ xs. Contains xs l) (sym u.parts) (Contains-append_right u.front u.rest l h) in
      let found = piece_of_link job.pieces cells l (All-contains (Contains (links_of job.pieces cells)) c l u.context.chosen in_c) in
      let k = found.0 in
      let small = small_link k l found.2 in
      let pairs : AllPairs (λ a b. stacks (job_compat job) a b ≡ true) (u.front ++ u.rest) = subst (λ xs. AllPairs (λ a b. stacks (job_compat job) a b ≡ true) xs) u.parts u.context.stacked in
      let is : IsPieceOf job.tokens (piece_at job k) = fits.is_job.pieces k no_piece found.1 in
      record {
        piece = k;
        candidate = member_in_filter (λ i. list_all (λ j. piece_below job j i) partial) (piece_numbers job) k (number_below (length job.pieces) k found.1)
            (below_each job cells partial u.front k l u.begins found.2 (λ a m. across (λ x y. stacks (job_compat job) x y ≡ true) u.front u.rest a l pairs m h));
        small = small;
        within = omega (arith, small.to, is.within);
      }

  -- the links behind the front add at most 10000 for each open token
  rest_fits : (partial : List ℕ) (c : List Link) (u : IsUnder job cells partial c) → sum_by (λ l. l.value) u.rest ≤ open_tokens job partial * 10000
  rest_fits partial c u =
      let pairs : AllPairs (λ a b. stacks (job_compat job) a b ≡ true) (u.front ++ u.rest) = subst (λ xs. AllPairs (λ a b. stacks (job_compat job) a b ≡ true) xs) u.parts u.context.stacked in
      let runs : sum_by (λ l. l.to - l.from) u.rest ≤ count_by (λ t. list_any (λ k. has_token (piece_at job k) t) (candidates job partial)) (numbers_below job.tokens) =
      runs_fit job.tokens u.rest (λ t. list_any (λ k. has_token (piece_at job k) t) (candidates job partial))
      (apart_from_stacked u.rest (pairs_of_rest (λ x y. stacks (job_compat job) x y ≡ true) u.front u.rest pairs))
      (λ l h. (open_link partial c u l h).within)
      (λ l h t low high. let o = open_link partial c u l h in
      any_from_member (λ k. has_token (piece_at job k) t) (candidates job partial) o.piece o.candidate
      (and_from (nat_le (piece_at job o.piece).from t) (nat_lt t (piece_at job o.piece).to) (le-leb (piece_at job o.piece).from t (omega (arith, low, o.small.from))) (lt-ltb t (piece_at job o.piece).to (omega (arith, high, o.small.to))))) in
      omega (arith, runs, rest_value u.rest (λ l h. (open_link partial c u l h).small.by_run))

  -- no context under a partial has a greater key than its bound
  pub key_within_bound : (partial : List ℕ) (c : List Link) → 0 < length partial → IsUnder job cells partial c → key_of c ≤ bound job partial
  key_within_bound partial c some u =
      let total : sum_by (λ l. l.value) c ≡ sum_by (λ l. l.value) u.front + sum_by (λ l. l.value) u.rest = ap (λ xs. sum_by (λ (l : Link). l.value) xs) u.parts ∙ sum_by-append (λ (l : Link). l.value) u.front u.rest in
      let score : target_score c ≡ target_score (u.front ++ u.rest) = ap target_score u.parts in
      let first = by_front partial u.front u.rest some u.begins in
      omega (arith, total, score, first, rest_fits partial c u)
    where
      by_front : (partial : List ℕ) (front rest : List Link) → 0 < length partial → AllZip (λ k l. Contains (links_at job cells k) l) partial front → 16 * sum_by (λ l. l.value) front + target_score (front ++ rest) ≤ 16 * sum_by (λ k. (piece_at job k).top_value) partial + root_score job partial
      by_front [] front rest some z = absurd (omega (arith, some))
      by_front (k ∷ partial) [] rest some z = absurd z
      by_front (k ∷ partial) (a ∷ front) rest some z =
          omega (arith, sum_by-cons (λ (l : Link). l.value) a front, sum_by-cons (λ j. (piece_at job j).top_value) k partial, (small_link k a z.0).with_score, front_value partial front z.1)
