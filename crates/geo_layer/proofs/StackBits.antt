-- The bits of rows that are written one after another, for which layers are compatible.
use Rattle.std.proofs.Common.{◌≡◌, ◌≢◌, ◌∙◌, ℕ, zero, suc, ◌+◌, ◌<◌, ◌≤◌, ◌⊎◌, ⊎_elim, Bool, true, false, cond, List, [], ◌∷◌, length, set, Option, None, Some, refl, sym, ap, arith, length-set, get_or-set_same, get_or-set_other}
use Rattle.std.specs.Prelude.{slice_get, slice_index}
use Rattle.std.specs.Bool.{◌==◌}
use Rattle.std.specs.Int.{bit_at}
use Rattle.std.proofs.lemmas.Nat.Bits.{bit_at-zero}
use Rattle.geo_layer.specs.Layer.{LayerView, both_compatible, compat}

same_or_not : (m n : ℕ) → (m ≡ n) ⊎ (m ≢ n)
same_or_not m n = grind arith

-- one row more
pub row_here : (rows : List ℕ) (a row j : ℕ) → a < length rows → j ≡ a → slice_index (set rows a row) j ≡ row
row_here rows a row j within same = ap (λ k. slice_index (set rows a row) k) same ∙ get_or-set_same rows a row 0 within

pub row_there : (rows : List ℕ) (a row j : ℕ) → j ≢ a → slice_index (set rows a row) j ≡ slice_index rows j
row_there rows a row j other = get_or-set_other rows a j row 0 other

-- the rows so far, and none after them
pub record AreStacksUpTo (layers : List LayerView) (a : ℕ) (rows : List ℕ) : Type 0 where
  pub so_far : (j k : ℕ) → j < a → k < 16 → bit_at (slice_index rows j) k ≡ cond (compat layers j k) 1 0
  pub none : (j : ℕ) → a ≤ j → slice_index rows j ≡ 0
  pub long : length rows ≡ 16

pub rows_more : (layers : List LayerView) (a row : ℕ) (rows : List ℕ) → AreStacksUpTo layers a rows → a < 16 → ((k : ℕ) → k < 16 → bit_at row k ≡ cond (compat layers a k) 1 0) → AreStacksUpTo layers (a + 1) (set rows a row)
rows_more layers a row rows are within bits = record {
  so_far = λ j k lj lk. ⊎_elim
      (λ (same : j ≡ a). ap (λ r. bit_at r k) (row_here rows a row j inside same) ∙ (bits k lk ∙ ap (λ n. cond (compat layers n k) 1 0) (sym same)))
      (λ (other : j ≢ a). ap (λ r. bit_at r k) (row_there rows a row j other) ∙ are.so_far j k (omega (arith, lj, other)) lk)
      (same_or_not j a);
  none = λ j high. row_there rows a row j (λ same. omega (arith, high, same)) ∙ are.none j (omega (arith, high));
  long = length-set rows a row ∙ are.long;
}
  where
    inside : a < length rows
    inside = omega (arith, within, are.long)

-- nothing stands past the end
past_end : (xs : List LayerView) (k : ℕ) → length xs ≤ k → slice_get xs k ≡ None
past_end [] k h = refl
past_end (x ∷ xs) zero h = absurd (omega (arith, h))
past_end (x ∷ xs) (suc k) h = past_end xs k (omega (arith, h))

none_back : (o : Option LayerView) → both_compatible o None ≡ false
none_back None = refl
none_back (Some x) = refl

-- no layer is compatible with one that isn't there
pub past_left : (layers : List LayerView) (a b : ℕ) → length layers ≤ a → compat layers a b ≡ false
past_left layers a b past = ap (λ o. both_compatible o (slice_get layers b)) (past_end layers a past)

pub past_right : (layers : List LayerView) (a b : ℕ) → length layers ≤ b → compat layers a b ≡ false
past_right layers a b past = ap (λ o. both_compatible (slice_get layers a) o) (past_end layers b past) ∙ none_back (slice_get layers a)

pub rows_end : (layers : List LayerView) (a : ℕ) (rows : List ℕ) → AreStacksUpTo layers a rows → length layers ≤ a → (i b : ℕ) → i < 16 → b < 16 → bit_at (slice_index rows i) b ≡ cond (compat layers i b) 1 0
rows_end layers a rows are all i b li lb =
    ⊎_elim
    (λ (low : i < a). are.so_far i b low lb)
    (λ (high : a ≤ i). ap (λ r. bit_at r b) (are.none i high) ∙ (bit_at-zero b ∙ sym (ap (λ c. cond c 1 0) (past_left layers i b (omega (arith, all, high))))))
    (side i a)
  where
    side : (m n : ℕ) → (m < n) ⊎ (n ≤ m)
    side m n = grind arith

-- the bits so far, and none after them
pub record AreBits (layers : List LayerView) (a b row : ℕ) : Type 0 where
  pub so_far : (k : ℕ) → k < b → bit_at row k ≡ cond (compat layers a k) 1 0
  pub none : (k : ℕ) → b ≤ k → bit_at row k ≡ 0

pub bits_more : (layers : List LayerView) (a b row new : ℕ) → AreBits layers a b row → bit_at new b ≡ cond (compat layers a b) 1 0 → ((k : ℕ) → k ≢ b → bit_at new k ≡ bit_at row k) → AreBits layers a (b + 1) new
bits_more layers a b row new are here others = record {
  so_far = λ k less. ⊎_elim
      (λ (same : k ≡ b). ap (bit_at new) same ∙ (here ∙ ap (λ n. cond (compat layers a n) 1 0) (sym same)))
      (λ (other : k ≢ b). others k other ∙ are.so_far k (omega (arith, less, other)))
      (same_or_not k b);
  none = λ k high. others k (λ same. omega (arith, high, same)) ∙ are.none k (omega (arith, high));
}

pub bits_end : (layers : List LayerView) (a b row : ℕ) → AreBits layers a b row → length layers ≤ b → (k : ℕ) → bit_at row k ≡ cond (compat layers a k) 1 0
bits_end layers a b row are all k =
    ⊎_elim
    (λ (low : k < b). are.so_far k low)
    (λ (high : b ≤ k). are.none k high ∙ sym (ap (λ c. cond c 1 0) (past_right layers a k (omega (arith, all, high)))))
    (side k b)
  where
    side : (m n : ℕ) → (m < n) ⊎ (n ≤ m)
    side m n = grind arith

pub one_is : (b : Bool) → (cond b 1 0 == 1) ≡ b
one_is true = refl
one_is false = refl
