-- Sums over lists of lists in either order, and how many members pass a test.
use Rattle.std.proofs.Common.{◌≡◌, ◌∙◌, ◌+◌, ◌*◌, ◌==◌, ◌<◌, ◌≤◌, ℕ, zero, suc, Bool, true, false, cond, List, [], ◌∷◌, ◌++◌, length, map, filter, get_or, All, refl, sym, ap, ap₂, subst, arith, length-append}
use Rattle.std.specs.Prelude.{flat_map, sum_by}
use Rattle.std.proofs.Math.Nat.{suc-mul}
use Rattle.std.proofs.lemmas.Bool.Decides.{nat_tests}
use Rattle.std.proofs.lemmas.List.Elements.{All-head, All-tail, filter-append}
use Rattle.std.proofs.lemmas.List.Sums.{sum_by-cons}
use Rattle.geo_base.specs.Lists.{numbers_from}

-- ---- sums

-- of what is the same for each member
pub sums_in : {X : Type 0} (f g : X → ℕ) (xs : List X) → All (λ x. f x ≡ g x) xs → sum_by f xs ≡ sum_by g xs
sums_in f g [] same = refl
sums_in f g (x ∷ xs) same =
    sum_by-cons f x xs
    ∙ (ap₂ (λ m n. m + n) (All-head (λ y. f y ≡ g y) x xs same) (sums_in f g xs (All-tail (λ y. f y ≡ g y) x xs same))
    ∙ sym (sum_by-cons g x xs))

pub sums_same : {X : Type 0} (f g : X → ℕ) (xs : List X) → ((x : X) → f x ≡ g x) → sum_by f xs ≡ sum_by g xs
sums_same f g xs same = sums_in f g xs (λ k d less. same (get_or xs k d))

pub sum_nothing : {X : Type 0} (xs : List X) → sum_by (λ x. 0) xs ≡ 0
sum_nothing [] = refl
sum_nothing (x ∷ xs) = let a = sum_by-cons (λ y. 0) x xs in let b = sum_nothing xs in omega (arith, a, b)

sum_both : {X : Type 0} (f g : X → ℕ) (xs : List X) → sum_by f xs + sum_by g xs ≡ sum_by (λ x. f x + g x) xs
sum_both f g [] = refl
sum_both f g (x ∷ xs) =
    let a = sum_by-cons f x xs in
    let b = sum_by-cons g x xs in
    let c = sum_by-cons (λ y. f y + g y) x xs in
    let d = sum_both f g xs in
    omega (arith, a, b, c, d)

-- a sum of sums, in the other order
pub sum_swap : {X Y : Type 0} (f : X → Y → ℕ) (xs : List X) (ys : List Y) → sum_by (λ x. sum_by (f x) ys) xs ≡ sum_by (λ y. sum_by (λ x. f x y) xs) ys
sum_swap f [] ys = sym (sum_nothing ys)
sum_swap f (x ∷ xs) ys =
    sum_by-cons (λ z. sum_by (f z) ys) x xs
    ∙ (ap (λ n. sum_by (f x) ys + n) (sum_swap f xs ys)
    ∙ (sum_both (f x) (λ y. sum_by (λ z. f z y) xs) ys
    ∙ sums_same (λ y. f x y + sum_by (λ z. f z y) xs) (λ y. sum_by (λ z. f z y) (x ∷ xs)) ys (λ y. sym (sum_by-cons (λ z. f z y) x xs))))

pub sum_map : {X Y : Type 0} (f : Y → ℕ) (g : X → Y) (xs : List X) → sum_by f (map g xs) ≡ sum_by (λ x. f (g x)) xs
sum_map f g [] = refl
sum_map f g (x ∷ xs) = sum_by-cons f (g x) (map g xs) ∙ (ap (λ n. f (g x) + n) (sum_map f g xs) ∙ sym (sum_by-cons (λ y. f (g y)) x xs))

pub sum_filter : {X : Type 0} (f : X → ℕ) (p : X → Bool) (xs : List X) → sum_by f (filter p xs) ≡ sum_by (λ x. cond (p x) (f x) 0) xs
sum_filter f p [] = refl
sum_filter f p (x ∷ xs) = by (p x) (sum_filter f p xs) ∙ sym (sum_by-cons (λ y. cond (p y) (f y) 0) x xs)
  where
    rest : ℕ
    rest = sum_by (λ y. cond (p y) (f y) 0) xs

    by : (b : Bool) → sum_by f (filter p xs) ≡ rest → sum_by f (cond b (x ∷ filter p xs) (filter p xs)) ≡ cond b (f x) 0 + rest
    by true h = sum_by-cons f x (filter p xs) ∙ ap (λ n. f x + n) h
    by false h = omega (arith, h)

-- as many times n as pass
pub sum_passing : {X : Type 0} (p : X → Bool) (n : ℕ) (xs : List X) → sum_by (λ x. cond (p x) n 0) xs ≡ length (filter p xs) * n
sum_passing p n [] = let none : 0 ≡ 0 * n = omega arith in none
sum_passing p n (x ∷ xs) = sum_by-cons (λ y. cond (p y) n 0) x xs ∙ by (p x) (sum_passing p n xs)
  where
    by : (b : Bool) → sum_by (λ y. cond (p y) n 0) xs ≡ length (filter p xs) * n → cond b n 0 + sum_by (λ y. cond (p y) n 0) xs ≡ length (cond b (x ∷ filter p xs) (filter p xs)) * n
    by true h = let times : suc (length (filter p xs)) * n ≡ length (filter p xs) * n + n = suc-mul (length (filter p xs)) n in omega (arith, h, times)
    by false h = omega (arith, h)

-- a sum over numbers in which at most one counts: it counts where it is among them, and is nothing else
pub sum_of_one : (h : ℕ → ℕ) (a s n : ℕ) → s ≤ a → (s + n ≤ a → h a ≡ 0) → sum_by (λ k. cond (a == k) (h k) 0) (numbers_from s n) ≡ h a
sum_of_one h a s zero low past = let none = past (omega (arith, low)) in sym none
sum_of_one h a s (suc n) low past = sum_by-cons (λ k. cond (a == k) (h k) 0) s (numbers_from (s + 1) n) ∙ by (sum_of_one h a (s + 1) n) (a == s) refl
  where
    apart : (i j : ℕ) → i < j → (i == j) ≡ false
    apart i j less = grind (arith, nat_tests)

    none : (t m : ℕ) → a < t → sum_by (λ k. cond (a == k) (h k) 0) (numbers_from t m) ≡ 0
    none t zero later = refl
    none t (suc m) later =
        let whole = sum_by-cons (λ k. cond (a == k) (h k) 0) t (numbers_from (t + 1) m) in
        let here : cond (a == t) (h t) 0 ≡ 0 = ap (λ b. cond b (h t) 0) (apart a t later) in
        let rest = none (t + 1) m (omega (arith, later)) in
        omega (arith, whole, here, rest)

    is_same : (i j : ℕ) → (i == j) ≡ true → i ≡ j
    is_same i j e = grind (arith, nat_tests)

    isnt_same : (i j : ℕ) → (i == j) ≡ false → i ≡ j → ⊥
    isnt_same i j e = grind (arith, nat_tests)

    by : (s + 1 ≤ a → ((s + 1) + n ≤ a → h a ≡ 0) → sum_by (λ k. cond (a == k) (h k) 0) (numbers_from (s + 1) n) ≡ h a) → (b : Bool) → (a == s) ≡ b → cond b (h s) 0 + sum_by (λ k. cond (a == k) (h k) 0) (numbers_from (s + 1) n) ≡ h a
    by go true is =
        let here : a ≡ s = is_same a s is in
        let rest = none (s + 1) n (omega (arith, here)) in
        let at : h s ≡ h a = ap h (sym here) in
        omega (arith, rest, at)
    by go false isnt =
        let more = isnt_same a s isnt in
        let above : s + 1 ≤ a = omega (arith, low, more) in
        let rest = go above (λ beyond. past (omega (arith, beyond))) in
        omega (arith, rest)

-- ---- lengths

-- of a list of which all or none pass
pub length_all : {X Y : Type 0} (p : Y → Bool) (g : X → Y) (b : Bool) (xs : List X) → ((x : X) → p (g x) ≡ b) → length (filter p (map g xs)) ≡ cond b (length xs) 0
length_all p g true [] same = refl
length_all p g false [] same = refl
length_all p g true (x ∷ xs) same = subst (λ c. length (cond c (g x ∷ filter p (map g xs)) (filter p (map g xs))) ≡ suc (length xs)) (sym (same x)) (ap suc (length_all p g true xs same))
length_all p g false (x ∷ xs) same = subst (λ c. length (cond c (g x ∷ filter p (map g xs)) (filter p (map g xs))) ≡ 0) (sym (same x)) (length_all p g false xs same)

-- of what is filtered, piece by piece
pub length_pieces : {X Y : Type 0} (p : Y → Bool) (g : X → List Y) (xs : List X) → length (filter p (flat_map g xs)) ≡ sum_by (λ x. length (filter p (g x))) xs
length_pieces p g [] = refl
length_pieces {Y = Y} p g (x ∷ xs) =
    let whole = ap (length {A = Y}) (filter_both (g x) (flat_map g xs)) in
    let both = length-append (filter p (g x)) (filter p (flat_map g xs)) in
    let rest = length_pieces p g xs in
    let cons = sum_by-cons (λ y. length (filter p (g y))) x xs in
    omega (arith, whole, both, rest, cons)
  where
    filter_both : (us vs : List Y) → filter p (us ++ vs) ≡ filter p us ++ filter p vs
    filter_both us vs = filter-append p us vs
