-- What bits say of the pieces that may stand below a partial.
use Rattle.std.proofs.Common.{◌≡◌, ℕ, zero, suc, ◌+◌, ◌-◌, ◌*◌, ◌%◌, ◌^◌, ◌<◌, ◌≤◌, min, max, Bool, true, false, ◌&&◌, ◌||◌, ◌⊎◌, inl, inr, ⊎_elim, List, [], ◌∷◌, ◌++◌, length, get_or, take, refl, sym, ◌∙◌, ap, ap₂, subst, arith, nat_eq}
use Rattle.std.specs.Prelude.{nat_lt, nat_le}
use Rattle.std.specs.List.{list_all}
use Rattle.std.specs.Int.{bit_at}
use Rattle.std.specs.Int.RustNames.{bit_and, bit_or}
use Rattle.std.proofs.Math.Pow.{pow_mono}
use Rattle.std.proofs.lemmas.Bool.{cases_Bool, ltb-true, ltb-false, leb-true, leb-false, eqb-true, eq-eqb, ne_eqb, le-leb, lt-ltb}
use Rattle.std.proofs.lemmas.List.{take_more}
use Rattle.std.proofs.lemmas.List.Folds.{list_all-append}
use Rattle.std.proofs.lemmas.Nat.{one_shl, pow_pos}
use Rattle.std.proofs.lemmas.Nat.Bits.{bit_at_and, bit_at_or, bit_at-zero, bit_at-lt, bit_at_ones, bit_at_ones_above, same_from_bits, bit_at_mask_inside, bit_at_mask_below, bit_at_mask_above}
use Rattle.geo_base.specs.declared.job.Piece.{Piece}
use Rattle.geo_base.specs.declared.job.Job.{Job}
use Rattle.geo_base.specs.Job.{IsPieceOf, IsJob}
use Rattle.stackable.specs.Partial.{no_piece, piece_at, piece_below, has_token}
use Rattle.stackable.specs.Room.{has_bit, run_bits, admits, IsRoom}

-- ---- shifts

pub shifted : (k : ℕ) → k ≤ 20 → 1 * 2 ^ k % 4294967296 ≡ 2 ^ k
shifted k few = one_shl k 32 (omega (arith, few))

pub no_less : (from to : ℕ) → from < to → to ≤ 20 → 1 * 2 ^ from % 4294967296 ≤ 1 * 2 ^ to % 4294967296
no_less from to some few = omega (arith, shifted from (omega (arith, some, few)), shifted to few, pow_mono {i = from} {j = to} (omega (arith, some)))

pub twenty : (from to : ℕ) → from < to → to ≤ 20 → 1 * 2 ^ to % 4294967296 - 1 * 2 ^ from % 4294967296 < 1048576
twenty from to some few = omega (arith, shifted from (omega (arith, some, few)), shifted to few, pow_mono {i = to} {j = 20} few, pow_pos from)

-- ---- single bits

bit_test : (n : ℕ) → n < 2 → (n ≡ 0) ⊎ (n ≡ 1)
bit_test zero h = inl refl
bit_test (suc zero) h = inr refl
bit_test (suc (suc n)) h = absurd (omega (arith, h))

both_bits : (a b t : ℕ) → has_bit (bit_and a b) t ≡ (has_bit a t && has_bit b t)
both_bits a b t = by (bit_at a t) (bit_at b t) (bit_at_and a b t) (bit_at-lt a t) (bit_at-lt b t)
  where
    by : (x y : ℕ) → bit_at (bit_and a b) t ≡ min x y → x < 2 → y < 2 → nat_eq (bit_at (bit_and a b) t) 1 ≡ (nat_eq x 1 && nat_eq y 1)
    by x y e p q = ap (λ z. nat_eq z 1) e ∙ two x y (bit_test x p) (bit_test y q)
      where
        two : (x y : ℕ) → (x ≡ 0) ⊎ (x ≡ 1) → (y ≡ 0) ⊎ (y ≡ 1) → nat_eq (min x y) 1 ≡ (nat_eq x 1 && nat_eq y 1)
        two x y (inl p) (inl q) = rw (p, q) refl
        two x y (inl p) (inr q) = rw (p, q) refl
        two x y (inr p) (inl q) = rw (p, q) refl
        two x y (inr p) (inr q) = rw (p, q) refl

pub either_bit : (a b t : ℕ) → has_bit (bit_or a b) t ≡ (has_bit a t || has_bit b t)
either_bit a b t = ap (λ z. nat_eq z 1) (bit_at_or a b t) ∙ two (bit_at a t) (bit_at b t) (bit_test (bit_at a t) (bit_at-lt a t)) (bit_test (bit_at b t) (bit_at-lt b t))
  where
    two : (x y : ℕ) → (x ≡ 0) ⊎ (x ≡ 1) → (y ≡ 0) ⊎ (y ≡ 1) → nat_eq (max x y) 1 ≡ (nat_eq x 1 || nat_eq y 1)
    two x y (inl p) (inl q) = rw (p, q) refl
    two x y (inl p) (inr q) = rw (p, q) refl
    two x y (inr p) (inl q) = rw (p, q) refl
    two x y (inr p) (inr q) = rw (p, q) refl

-- the bits below a place
bits_below : (k t : ℕ) → has_bit (2 ^ k - 1) t ≡ nat_lt t k
bits_below k t =
    ⊎_elim
    (λ (yes : nat_lt t k ≡ true). ap (λ z. nat_eq z 1) (bit_at_ones k t (ltb-true t k yes)) ∙ sym yes)
    (λ (no : nat_lt t k ≡ false). ap (λ z. nat_eq z 1) (bit_at_ones_above k t (ltb-false t k no)) ∙ sym no)
    (cases_Bool (nat_lt t k))

-- the bits of a run are its tokens
pub run_has : (p : Piece) (t : ℕ) → has_bit (run_bits p) t ≡ has_token p t
run_has p t =
    ⊎_elim
    (λ (low : nat_le p.from t ≡ true).
    ⊎_elim
    (λ (high : nat_lt t p.to ≡ true). ap (λ z. nat_eq z 1) (bit_at_mask_inside p.from p.to t (leb-true p.from t low) (ltb-true t p.to high)) ∙ sym (ap₂ ◌&&◌ low high))
    (λ (past : nat_lt t p.to ≡ false). ap (λ z. nat_eq z 1) (bit_at_mask_above p.from p.to t (ltb-false t p.to past)) ∙ sym (ap₂ ◌&&◌ low past))
    (cases_Bool (nat_lt t p.to)))
    (λ (before : nat_le p.from t ≡ false). ap (λ z. nat_eq z 1) (bit_at_mask_below p.from p.to t (leb-false p.from t before)) ∙ sym (ap (λ b. b && nat_lt t p.to) before))
    (cases_Bool (nat_le p.from t))

-- ---- numbers without bits

no_bits : (n : ℕ) → ((t : ℕ) → has_bit n t ≡ false) → n ≡ 0
no_bits n h = same_from_bits n 0 (λ t. ⊎_elim (λ e. e ∙ sym (bit_at-zero t)) (λ (e : bit_at n t ≡ 1). let bad : true ≡ false = sym (ap (λ z. nat_eq z 1) e) ∙ h t in absurd (cc bad)) (bit_test (bit_at n t) (bit_at-lt n t)))

bits_of_none : (n t : ℕ) → n ≡ 0 → has_bit n t ≡ false
bits_of_none n t e = ap (λ m. has_bit m t) e ∙ ap (λ z. nat_eq z 1) (bit_at-zero t)

-- two tests that come true together are one
same_test : (a b : Bool) → (a ≡ true → b ≡ true) → (b ≡ true → a ≡ true) → a ≡ b
same_test true b to back = sym (to refl)
same_test false true to back = absurd (cc (back refl))
same_test false false to back = refl

and_true : (a b : Bool) → (a && b) ≡ true → (a ≡ true) × (b ≡ true)
and_true true b e = (refl, e)
and_true false b e = absurd (cc e)

true_and : (a b : Bool) → a ≡ true → b ≡ true → (a && b) ≡ true
true_and a b p q = rw (p, q) refl

-- none of the bits of either is none of the bits of both
apart_of_either : (a b c : ℕ) → nat_eq (bit_and (bit_or a b) c) 0 ≡ (nat_eq (bit_and a c) 0 && nat_eq (bit_and b c) 0)
apart_of_either a b c = same_test (nat_eq (bit_and (bit_or a b) c) 0) (nat_eq (bit_and a c) 0 && nat_eq (bit_and b c) 0)
    (λ none. let zero_all = eqb-true (bit_and (bit_or a b) c) 0 none in
    true_and (nat_eq (bit_and a c) 0) (nat_eq (bit_and b c) 0)
    (eq-eqb (bit_and a c) 0 (no_bits (bit_and a c) (λ t. both_bits a c t ∙ left (has_bit a t) (has_bit b t) (has_bit c t) (sym (all_bits t) ∙ bits_of_none (bit_and (bit_or a b) c) t zero_all))))
    (eq-eqb (bit_and b c) 0 (no_bits (bit_and b c) (λ t. both_bits b c t ∙ right (has_bit a t) (has_bit b t) (has_bit c t) (sym (all_bits t) ∙ bits_of_none (bit_and (bit_or a b) c) t zero_all)))))
    (λ none. let both = and_true (nat_eq (bit_and a c) 0) (nat_eq (bit_and b c) 0) none in
    eq-eqb (bit_and (bit_or a b) c) 0 (no_bits (bit_and (bit_or a b) c) (λ t. all_bits t ∙ neither (has_bit a t) (has_bit b t) (has_bit c t)
    (sym (both_bits a c t) ∙ bits_of_none (bit_and a c) t (eqb-true (bit_and a c) 0 both.0))
    (sym (both_bits b c t) ∙ bits_of_none (bit_and b c) t (eqb-true (bit_and b c) 0 both.1)))))
  where
    all_bits : (t : ℕ) → has_bit (bit_and (bit_or a b) c) t ≡ ((has_bit a t || has_bit b t) && has_bit c t)
    all_bits t = both_bits (bit_or a b) c t ∙ ap (λ z. z && has_bit c t) (either_bit a b t)

    left : (x y z : Bool) → ((x || y) && z) ≡ false → (x && z) ≡ false
    left true y z e = e
    left false y z e = refl

    right : (x y z : Bool) → ((x || y) && z) ≡ false → (y && z) ≡ false
    right true true z e = e
    right true false z e = refl
    right false y z e = e

    neither : (x y z : Bool) → (x && z) ≡ false → (y && z) ≡ false → ((x || y) && z) ≡ false
    neither true y z p q = p
    neither false y z p q = q

-- runs without a common token are disjoint
runs_apart : (p q : Piece) → p.from < p.to → q.from < q.to → nat_eq (bit_and (run_bits p) (run_bits q)) 0 ≡ (nat_le p.to q.from || nat_le q.to p.from)
runs_apart p q some other =
    ⊎_elim
    (λ (before : nat_le p.to q.from ≡ true). none (λ t first second. omega (arith, first.1, second.0, leb-true p.to q.from before)) ∙ sym (ap (λ b. b || nat_le q.to p.from) before))
    (λ (not_before : nat_le p.to q.from ≡ false).
    ⊎_elim
    (λ (after : nat_le q.to p.from ≡ true). none (λ t first second. omega (arith, first.0, second.1, leb-true q.to p.from after)) ∙ sym (ap₂ ◌||◌ not_before after))
    (λ (meet : nat_le q.to p.from ≡ false). met (leb-false p.to q.from not_before) (leb-false q.to p.from meet) ∙ sym (ap₂ ◌||◌ not_before meet))
    (cases_Bool (nat_le q.to p.from)))
    (cases_Bool (nat_le p.to q.from))
  where
    token : (r : Piece) (t : ℕ) → has_token r t ≡ true → (r.from ≤ t) × (t < r.to)
    token r t e = let parts = and_true (nat_le r.from t) (nat_lt t r.to) e in (leb-true r.from t parts.0, ltb-true t r.to parts.1)

    has : (r : Piece) (t : ℕ) → r.from ≤ t → t < r.to → has_bit (run_bits r) t ≡ true
    has r t low high = run_has r t ∙ true_and (nat_le r.from t) (nat_lt t r.to) (le-leb r.from t low) (lt-ltb t r.to high)

    none : ((t : ℕ) → (p.from ≤ t) × (t < p.to) → (q.from ≤ t) × (t < q.to) → ⊥) → nat_eq (bit_and (run_bits p) (run_bits q)) 0 ≡ true
    none h = eq-eqb (bit_and (run_bits p) (run_bits q)) 0 (no_bits (bit_and (run_bits p) (run_bits q)) (λ t.
        ⊎_elim
        (λ (yes : has_bit (bit_and (run_bits p) (run_bits q)) t ≡ true).
        let parts = and_true (has_bit (run_bits p) t) (has_bit (run_bits q) t) (sym (both_bits (run_bits p) (run_bits q) t) ∙ yes) in
        absurd (h t (token p t (sym (run_has p t) ∙ parts.0)) (token q t (sym (run_has q t) ∙ parts.1))))
        (λ no. no)
        (cases_Bool (has_bit (bit_and (run_bits p) (run_bits q)) t))))

    met : q.from < p.to → p.from < q.to → nat_eq (bit_and (run_bits p) (run_bits q)) 0 ≡ false
    met first second =
        let t = max p.from q.from in
        let shared : has_bit (bit_and (run_bits p) (run_bits q)) t ≡ true = both_bits (run_bits p) (run_bits q) t
        ∙ true_and (has_bit (run_bits p) t) (has_bit (run_bits q) t) (has p t (omega arith) (omega (arith, some, first))) (has q t (omega arith) (omega (arith, other, second))) in
        ne_eqb (bit_and (run_bits p) (run_bits q)) 0 (λ e. let bad : true ≡ false = sym shared ∙ bits_of_none (bit_and (run_bits p) (run_bits q)) t e in absurd (cc bad))

-- ---- the room below a partial

pub piece_is : (job : Job) (k : ℕ) → IsJob job → k < length job.pieces → IsPieceOf 20 (piece_at job k)
piece_is job k is inside = let p : IsPieceOf job.tokens (piece_at job k) = is.pieces k no_piece inside in record { layer = p.layer; some = p.some; within = omega (arith, p.within, is.tokens) }

-- all layers and no token taken
pub whole_admits : (job : Job) (taken layers k : ℕ) → IsJob job → taken ≡ 0 → layers ≡ 2 ^ 16 - 1 → k < length job.pieces → admits taken layers (piece_at job k) ≡ true
whole_admits job taken layers k is none all inside =
    let layer = (piece_at job k).layer in
    true_and (has_bit layers layer) (nat_eq (bit_and taken (run_bits (piece_at job k))) 0)
    (ap (λ n. has_bit n layer) all ∙ (bits_below 16 layer ∙ lt-ltb layer 16 (piece_is job k is inside).layer))
    (eq-eqb (bit_and taken (run_bits (piece_at job k))) 0 (no_bits (bit_and taken (run_bits (piece_at job k))) (λ t. both_bits taken (run_bits (piece_at job k)) t ∙ ap (λ b. b && has_bit (run_bits (piece_at job k)) t) (bits_of_none taken t none))))

regrouped : (l s b t d : Bool) → ((l && (s && b)) && (t && d)) ≡ ((l && t) && ((b && d) && s))
regrouped true true true true true = refl
regrouped true true true true false = refl
regrouped true true true false d = refl
regrouped true true false true d = refl
regrouped true true false false d = refl
regrouped true false true true true = refl
regrouped true false true true false = refl
regrouped true false true false d = refl
regrouped true false false true d = refl
regrouped true false false false d = refl
regrouped false s b t d = refl

-- one more piece above
pub admits_more : (job : Job) (taken layers j k : ℕ) → IsJob job → j < length job.pieces → k < length job.pieces
    → admits (bit_or taken (run_bits (piece_at job j))) (bit_and layers (bit_and (get_or job.stacks (piece_at job j).layer 0) (2 ^ (piece_at job j).layer - 1))) (piece_at job k) ≡ (admits taken layers (piece_at job k) && piece_below job j k)
admits_more job taken layers j k is first second =
    let p = piece_at job j in
    let q = piece_at job k in
    let row = get_or job.stacks p.layer 0 in
    ap₂ ◌&&◌
    (both_bits layers (bit_and row (2 ^ p.layer - 1)) q.layer ∙ ap (λ b. has_bit layers q.layer && b) (both_bits row (2 ^ p.layer - 1) q.layer ∙ ap (λ b. has_bit row q.layer && b) (bits_below p.layer q.layer)))
    (apart_of_either taken (run_bits p) (run_bits q) ∙ ap (λ b. nat_eq (bit_and taken (run_bits q)) 0 && b) (runs_apart p q (piece_is job j is first).some (piece_is job k is second).some))
    ∙ regrouped (has_bit layers q.layer) (has_bit row q.layer) (nat_lt q.layer p.layer) (nat_eq (bit_and taken (run_bits q)) 0) (nat_le p.to q.from || nat_le q.to p.from)

-- the room below one more piece
pub room_child : (job : Job) (p : List ℕ) (j taken layers more_taken more_layers : ℕ) (q : Piece) → IsJob job → IsRoom job p taken layers
    → j < length job.pieces → q ≡ piece_at job j
    → more_taken ≡ bit_or taken (run_bits q) → more_layers ≡ bit_and layers (bit_and (get_or job.stacks q.layer 0) (2 ^ q.layer - 1))
    → IsRoom job (p ++ j ∷ []) more_taken more_layers
room_child job p j taken layers more_taken more_layers q is before first here run row =
    λ k second.
    ap₂ (λ t l. admits t l (piece_at job k)) (run ∙ ap (λ (z : Piece). bit_or taken (run_bits z)) here) (row ∙ ap (λ (z : Piece). bit_and layers (bit_and (get_or job.stacks z.layer 0) (2 ^ z.layer - 1))) here)
    ∙ (admits_more job taken layers j k is first second
    ∙ (ap (λ b. b && piece_below job j k) (before k second)
    ∙ sym (all_push (λ j. piece_below job j k) p j)))
  where
    and_true_right : (a b : Bool) → (a && (b && true)) ≡ (a && b)
    and_true_right a true = refl
    and_true_right a false = refl

    all_push : (h : ℕ → Bool) (xs : List ℕ) (x : ℕ) → list_all h (xs ++ x ∷ []) ≡ (list_all h xs && h x)
    all_push h xs x = list_all-append h xs (x ∷ []) ∙ and_true_right (list_all h xs) (h x)

-- the same along a list
pub room_more : (job : Job) (items : List ℕ) (i taken layers more_taken more_layers : ℕ) (p : Piece) → IsJob job → IsRoom job (take i items) taken layers
    → i < length items → get_or items i 0 < length job.pieces → p ≡ piece_at job (get_or items i 0)
    → more_taken ≡ bit_or taken (run_bits p) → more_layers ≡ bit_and layers (bit_and (get_or job.stacks p.layer 0) (2 ^ p.layer - 1))
    → IsRoom job (take (i + 1) items) more_taken more_layers
room_more job items i taken layers more_taken more_layers p is before inside first here run row =
    subst (λ xs. IsRoom job xs more_taken more_layers) (sym (take_more items i 0 inside))
    (room_child job (take i items) (get_or items i 0) taken layers more_taken more_layers p is before first here run row)
