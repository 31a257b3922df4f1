-- The pieces that may stand below a partial come before its last piece, and their tokens are counted by bits.
use Rattle.std.proofs.Common.{◌≡◌, ℕ, zero, suc, ◌+◌, ◌-◌, ◌*◌, ◌/◌, ◌%◌, ◌^◌, ◌<◌, ◌≤◌, Bool, true, false, cond, ◌&&◌, ◌||◌, ⊎_elim, List, [], ◌∷◌, ◌++◌, length, get_or, take, filter, refl, sym, ◌∙◌, ap, ap₂, subst, arith, nat_eq, append-nil, length-take-le, Ordering, Less, Equal, Greater, nat_cmp}
use Rattle.std.specs.Prelude.{nat_lt, nat_le, count_by}
use Rattle.std.specs.List.{list_all, list_any}
use Rattle.std.specs.Int.RustNames.{bit_or, count_ones}
use Rattle.std.specs.Int.Count.{ones, ones-ones}
use Rattle.std.specs.Ordering.{ordering_then}
use Rattle.std.proofs.Math.Pow.{pow_mono}
use Rattle.std.proofs.Math.Nat.{mod-lt, pow-suc}
use Rattle.std.proofs.lemmas.Bool.{cases_Bool, cases_lt, ne_eqb, ltb-true, ltb-false, le-ltb}
use Rattle.std.proofs.lemmas.List.{get_or-take, get_or_default}
use Rattle.std.proofs.lemmas.List.Elements.{filter-append}
use Rattle.std.proofs.lemmas.Nat.{or_lt, pow_pos, ones_cat, ones-le, div-add-mod', mul-le}
use Rattle.std.proofs.lemmas.Nat.Bits.{bit_at-zero, bit_at_cat_low}
use Rattle.geo_base.specs.declared.job.Piece.{Piece}
use Rattle.geo_base.specs.declared.job.Job.{Job}
use Rattle.geo_base.specs.Job.{job_compat, IsPieceOf, IsJob}
use Rattle.stackable.specs.Partial.{no_piece, piece_at, numbers_below, piece_below, candidates, has_token, open_tokens, IsPartial}
use Rattle.stackable.specs.Room.{has_bit, run_bits, admits, IsRoom}
use Rattle.stackable.proofs.Numbers.{any_push, any_of_filter, numbers_more, piece_inside}
use Rattle.stackable.proofs.BoundFacts.{count-suc}
use Rattle.stackable.proofs.RoomFacts.{either_bit, run_has}

-- ---- the last piece

-- a test that fails from a number on is of no account there
filter_past : (g : ℕ → Bool) (last n : ℕ) → last ≤ n → ((k : ℕ) → last ≤ k → k < n → g k ≡ false) → filter g (numbers_below n) ≡ filter g (numbers_below last)
filter_past g last zero low none = let same : 0 ≡ last = omega (arith, low) in ap (λ m. filter g (numbers_below m)) same
filter_past g last (suc n) low none =
    ⊎_elim
    (λ less. let later : last ≤ n = omega (arith, less) in
    filter-append g (numbers_below n) (n ∷ []) ∙ (ap (λ xs. filter g (numbers_below n) ++ xs) (gone n (none n later (omega arith))) ∙ (append-nil (filter g (numbers_below n)) ∙ filter_past g last n later (λ k l h. none k l (omega (arith, h))))))
    (λ same. let e : suc n ≡ last = omega (arith, same, low) in ap (λ m. filter g (numbers_below m)) e)
    (cases_lt last (suc n))
  where
    gone : (m : ℕ) → g m ≡ false → filter g (m ∷ []) ≡ []
    gone m e = rw e refl

-- what one member fails, not all pass
fails_at : (h : ℕ → Bool) (xs : List ℕ) (i : ℕ) → i < length xs → h (get_or xs i 0) ≡ false → list_all h xs ≡ false
fails_at h [] i l e = absurd (omega (arith, l))
fails_at h (x ∷ xs) zero l e = ap (λ b. b && list_all h xs) e
fails_at h (x ∷ xs) (suc i) l e = by (h x) (fails_at h xs i (omega (arith, l)) e)
  where
    by : (b : Bool) → list_all h xs ≡ false → (b && list_all h xs) ≡ false
    by true f = f
    by false f = refl

-- who comes first by layer, from and to has no greater layer
first_layer : (a b : ℕ) (o : Ordering) → ordering_then (nat_cmp a b) o ≡ Less → a ≤ b
first_layer a b o e =
    ⊎_elim
    (λ less. omega (arith, less))
    (λ more. ⊎_elim
    (λ (after : nat_lt b a ≡ true). absurd (greater (le-ltb a b more) after))
    (λ level. ltb-false b a level)
    (cases_Bool (nat_lt b a)))
    (cases_lt a b)
  where
    greater : nat_lt a b ≡ false → nat_lt b a ≡ true → ⊥
    greater level after = let apart : nat_eq a b ≡ false = ne_eqb a b (λ same. omega (arith, same, ltb-true b a after)) in
        let bad : Greater ≡ Less = sym (ap (λ o2. ordering_then o2 o) (ap₂ (λ p q. cond p Less (cond q Equal Greater)) level apart)) ∙ e in absurd (cc bad)

module _ (job : Job) (is : IsJob job) (p : List ℕ) (partial : IsPartial job p) where
  pub last_inside : (last : ℕ) → last ≡ get_or p (length p - 1) 0 → last < length job.pieces
  last_inside last e = subst (λ k. k < length job.pieces) (sym e) (piece_inside job p (length p - 1) partial (omega (arith, partial.some)))

  layers_rise : (last k : ℕ) → last ≤ k → k < length job.pieces → (piece_at job last).layer ≤ (piece_at job k).layer
  layers_rise last k low inside =
      ⊎_elim
      (λ less. first_layer (piece_at job last).layer (piece_at job k).layer _ (is.rising last k no_piece less inside))
      (λ more. let same : last ≡ k = omega (arith, more, low) in subst (λ m. (piece_at job last).layer ≤ (piece_at job m).layer) same (omega arith))
      (cases_lt last k)

  pub before_last : (last : ℕ) → last ≡ get_or p (length p - 1) 0 → candidates job p ≡ filter (λ k. list_all (λ j. piece_below job j k) p) (numbers_below last)
  before_last last e =
      filter_past (λ k. list_all (λ j. piece_below job j k) p) last (length job.pieces) (omega (arith, last_inside last e))
      (λ k low inside. fails_at (λ j. piece_below job j k) p (length p - 1) (omega (arith, partial.some)) (subst (λ j. piece_below job j k ≡ false) e (not_below last k (layers_rise last k low inside))))
    where
      not_below : (j k : ℕ) → (piece_at job j).layer ≤ (piece_at job k).layer → piece_below job j k ≡ false
      not_below j k up = ap (λ b. b && (nat_le (piece_at job j).to (piece_at job k).from || nat_le (piece_at job k).to (piece_at job j).from) && job_compat job (piece_at job j).layer (piece_at job k).layer) (le-ltb (piece_at job k).layer (piece_at job j).layer up)

-- ---- the bits of open tokens

pub open_more : (job : Job) (p : List ℕ) (taken layers seen more i found : ℕ) (q : Piece) → IsJob job → IsRoom job p taken layers
    → i < length job.pieces → q ≡ piece_at job i → found ≡ cond (admits taken layers q) (run_bits q) 0 → more ≡ bit_or seen found
    → ((t : ℕ) → has_bit seen t ≡ list_any (λ k. list_all (λ j. piece_below job j k) p && has_token (piece_at job k) t) (numbers_below i)) × (seen < 2 ^ job.tokens)
    → ((t : ℕ) → has_bit more t ≡ list_any (λ k. list_all (λ j. piece_below job j k) p && has_token (piece_at job k) t) (numbers_below (i + 1))) × (more < 2 ^ job.tokens)
open_more job p taken layers seen more i found q is room inside here gave made before = (
  λ t. ap (λ n. has_bit n t) made ∙ (either_bit seen found t ∙ (ap₂ ◌||◌ (before.0 t) (bit_of t) ∙ sym (any_next t))),
  subst (λ n. n < 2 ^ job.tokens) (sym made) (or_lt job.tokens seen found before.1 few),
)
  where
    test : ℕ → ℕ → Bool
    test t k = list_all (λ j. piece_below job j k) p && has_token (piece_at job k) t

    any_next : (t : ℕ) → list_any (test t) (numbers_below (i + 1)) ≡ (list_any (test t) (numbers_below i) || test t i)
    any_next t = ap (list_any (test t)) (numbers_more i) ∙ any_push (test t) (numbers_below i) i

    value : found ≡ cond (list_all (λ j. piece_below job j i) p) (run_bits (piece_at job i)) 0
    value = gave ∙ (ap (λ z. cond (admits taken layers z) (run_bits z) 0) here ∙ ap (λ b. cond b (run_bits (piece_at job i)) 0) (room i inside))

    bit_of : (t : ℕ) → has_bit found t ≡ test t i
    bit_of t = ap (λ n. has_bit n t) value ∙ by (list_all (λ j. piece_below job j i) p)
      where
        by : (b : Bool) → has_bit (cond b (run_bits (piece_at job i)) 0) t ≡ (b && has_token (piece_at job i) t)
        by true = run_has (piece_at job i) t
        by false = ap (λ z. nat_eq z 1) (bit_at-zero t)

    few : found < 2 ^ job.tokens
    few = subst (λ n. n < 2 ^ job.tokens) (sym value) (by (list_all (λ j. piece_below job j i) p))
      where
        by : (b : Bool) → cond b (run_bits (piece_at job i)) 0 < 2 ^ job.tokens
        by true = let piece : IsPieceOf job.tokens (piece_at job i) = is.pieces i no_piece inside in
            omega (arith, pow_mono {i = (piece_at job i).to} {j = job.tokens} piece.within, pow_pos (piece_at job i).from, pow_pos (piece_at job i).to)
        by false = pow_pos job.tokens

-- ---- how many bits are set

same_count : (f g : ℕ → Bool) (n : ℕ) → ((t : ℕ) → t < n → f t ≡ g t) → count_by f (numbers_below n) ≡ count_by g (numbers_below n)
same_count f g zero h = refl
same_count f g (suc n) h = count-suc f n ∙ (ap₂ (λ (a : ℕ) (b : Bool). a + cond b 1 0) (same_count f g n (λ t l. h t (omega (arith, l)))) (h n (omega arith)) ∙ sym (count-suc g n))

-- a number below 2 has one bit
one_bit : (a : ℕ) → a < 2 → count_ones a ≡ cond (nat_eq (a % 2) 1) 1 0
one_bit zero h = let none : ones 0 ≡ 0 = omega (arith, ones-le 0 0 (omega arith)) in none
one_bit (suc zero) h = ones-ones 1
one_bit (suc (suc a)) h = absurd (omega (arith, h))

-- a number has as many ones as bits that are set
pub ones_are_bits : (k n : ℕ) → n < 2 ^ k → count_ones n ≡ count_by (has_bit n) (numbers_below k)
ones_are_bits zero n few = let none : n ≡ 0 = omega (arith, few) in subst (λ m. count_ones m ≡ 0) (sym none) (one_bit 0 (omega arith))
ones_are_bits (suc k) n few =
    let a = n / 2 ^ k in
    let r = n % 2 ^ k in
    let parts : a * 2 ^ k + r ≡ n = div-add-mod' n (2 ^ k) in
    let low : r < 2 ^ k = mod-lt n (pow_pos k) in
    let high : a < 2 = top a r (2 ^ k) n parts (omega (arith, few, pow-suc 2 k)) in
    let same : count_by (has_bit n) (numbers_below k) ≡ count_by (has_bit r) (numbers_below k) = same_count (has_bit n) (has_bit r) k (λ t l. ap (λ m. has_bit m t) (sym parts) ∙ ap (λ z. nat_eq z 1) (bit_at_cat_low a k r t l)) in
    ap count_ones (sym parts) ∙ (ones_cat k a r low ∙ sym (count-suc (has_bit n) k ∙ (ap₂ ◌+◌ (same ∙ sym (ones_are_bits k r low)) (sym (one_bit a high)) ∙ swapped (count_ones r) (count_ones a))))
  where
    swapped : (x y : ℕ) → x + y ≡ y + x
    swapped x y = omega arith

    top : (a r m n : ℕ) → a * m + r ≡ n → n < 2 * m → a < 2
    top a r m n e l = ⊎_elim (λ less. less) (λ more. absurd (omega (arith, e, l, mul-le 2 m a m more (omega arith)))) (cases_lt a 2)

-- the bits are as many as the open tokens
pub open_count : (job : Job) (p : List ℕ) (seen : ℕ) → ((t : ℕ) → has_bit seen t ≡ list_any (λ k. has_token (piece_at job k) t) (candidates job p)) → seen < 2 ^ job.tokens → count_ones seen ≡ open_tokens job p
open_count job p seen bits few = ones_are_bits job.tokens seen few ∙ same_count (has_bit seen) (λ t. list_any (λ k. has_token (piece_at job k) t) (candidates job p)) job.tokens (λ t l. bits t)

-- all pieces before the last one were looked at
pub open_all : (job : Job) (p : List ℕ) (seen last i : ℕ) → i ≡ last → candidates job p ≡ filter (λ k. list_all (λ j. piece_below job j k) p) (numbers_below last)
    → ((t : ℕ) → has_bit seen t ≡ list_any (λ k. list_all (λ j. piece_below job j k) p && has_token (piece_at job k) t) (numbers_below i))
    → (t : ℕ) → has_bit seen t ≡ list_any (λ k. has_token (piece_at job k) t) (candidates job p)
open_all job p seen last i over before bits t =
    bits t ∙ (ap (λ n. list_any (λ k. list_all (λ j. piece_below job j k) p && has_token (piece_at job k) t) (numbers_below n)) over
    ∙ sym (ap (list_any (λ k. has_token (piece_at job k) t)) before ∙ any_of_filter (λ k. list_all (λ j. piece_below job j k) p) (λ k. has_token (piece_at job k) t) (numbers_below last)))

-- ---- the pieces before one

module _ (job : Job) (xs : List Piece) (last i : ℕ) (all : xs ≡ job.pieces) (inside : last < length job.pieces) where
  pub front_long : length (take last xs) ≡ last
  front_long = length-take-le last xs (subst (λ (ys : List Piece). last ≤ length ys) (sym all) (omega (arith, inside)))

  pub at_front : (d : Piece) → i < length (take last xs) → get_or (take last xs) i d ≡ piece_at job i
  at_front d within =
      let below : i < last = omega (arith, within, front_long) in
      get_or-take last xs i d below ∙ (ap (λ (ys : List Piece). get_or ys i d) all ∙ get_or_default job.pieces i d no_piece (omega (arith, below, inside)))
