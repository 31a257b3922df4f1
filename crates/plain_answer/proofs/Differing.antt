-- Lists whose members all differ, made piece by piece.
use Rattle.std.proofs.Common.{◌≡◌, ◌≢◌, ◌∙◌, List, [], ◌∷◌, ◌++◌, map, get_or, All, sym, ap, arith}
use Rattle.std.specs.Prelude.{AllPairs, flat_map}
use Rattle.std.proofs.lemmas.List.Elements.{All-head, All-tail, All-append, All-map, All-weaker}
use Rattle.std.proofs.lemmas.List.Kept.{AllPairs-cons}
use Rattle.geo_base.proofs.Members.{pairs_head, pairs_tail}

-- no two members are the same
abbrev pub Differ : {X : Type 0} → List X → Type 0
Differ {X} xs = AllPairs (λ (a b : X). a ≢ b) xs

-- nothing has to hold of the members of an empty list
pub none : {X : Type 0} (P : X → Type 0) → All P []
none P k d less = absurd (omega (arith, less))

-- what holds of everything holds of the members
pub all : {X : Type 0} (P : X → Type 0) (xs : List X) → ((x : X) → P x) → All P xs
all P xs is k d less = is (get_or xs k d)

pub all_flat_map : {X Y : Type 0} (P : Y → Type 0) (f : X → List Y) (xs : List X) → ((x : X) → All P (f x)) → All P (flat_map f xs)
all_flat_map P f [] each = none P
all_flat_map P f (x ∷ xs) each = All-append P (f x) (flat_map f xs) (each x) (all_flat_map P f xs each)

-- ---- where members differ

pub both_differ : {X : Type 0} (xs ys : List X) → Differ xs → Differ ys → All (λ x. All (λ y. x ≢ y) ys) xs → Differ (xs ++ ys)
both_differ [] ys in_xs in_ys apart = in_ys
both_differ (x ∷ xs) ys in_xs in_ys apart =
    AllPairs-cons (λ a b. a ≢ b) x (xs ++ ys)
    (All-append (λ b. x ≢ b) xs ys (pairs_head (λ a b. a ≢ b) x xs in_xs) (All-head (λ a. All (λ b. a ≢ b) ys) x xs apart))
    (both_differ xs ys (pairs_tail (λ a b. a ≢ b) x xs in_xs) in_ys (All-tail (λ a. All (λ b. a ≢ b) ys) x xs apart))

-- what holds of each two things that are made holds of the list of them
pub pairs_map : {X Y : Type 0} (R : Y → Y → Type 0) (f : X → Y) (xs : List X) → AllPairs (λ a b. R (f a) (f b)) xs → AllPairs R (map f xs)
pairs_map R f [] pairs = λ i j d less within. absurd (omega (arith, within))
pairs_map R f (x ∷ xs) pairs =
    AllPairs-cons R (f x) (map f xs)
    (All-map (R (f x)) f xs (pairs_head (λ a b. R (f a) (f b)) x xs pairs))
    (pairs_map R f xs (pairs_tail (λ a b. R (f a) (f b)) x xs pairs))

-- a list of differing things differs
pub differ_map : {X Y : Type 0} (f : X → Y) (xs : List X) → AllPairs (λ a b. f a ≢ f b) xs → Differ (map f xs)
differ_map f xs pairs = pairs_map (λ a b. a ≢ b) f xs pairs

-- pieces differ that are marked, each by what it is made of, where the marks do
module _ {X Y K : Type 0} (mark : X → K) (read : Y → K) (f : X → List Y) (marked : (x : X) → All (λ y. read y ≡ mark x) (f x)) where
  pub elsewhere : (k : K) (xs : List X) → All (λ x. k ≢ mark x) xs → All (λ y. k ≢ read y) (flat_map f xs)
  elsewhere k [] apart = none (λ y. k ≢ read y)
  elsewhere k (x ∷ xs) apart =
      All-append (λ y. k ≢ read y) (f x) (flat_map f xs)
      (All-weaker (λ y. read y ≡ mark x) (λ y. k ≢ read y) (λ y is same. All-head (λ z. k ≢ mark z) x xs apart (same ∙ is)) (f x) (marked x))
      (elsewhere k xs (All-tail (λ z. k ≢ mark z) x xs apart))

  pub differ_flat_map : (xs : List X) → AllPairs (λ a b. mark a ≢ mark b) xs → All (λ x. Differ (f x)) xs → Differ (flat_map f xs)
  differ_flat_map [] pairs each = λ i j d less within. absurd (omega (arith, within))
  differ_flat_map (x ∷ xs) pairs each =
      let others = elsewhere (mark x) xs (pairs_head (λ a b. mark a ≢ mark b) x xs pairs) in
      both_differ (f x) (flat_map f xs)
      (All-head (λ z. Differ (f z)) x xs each)
      (differ_flat_map xs (pairs_tail (λ a b. mark a ≢ mark b) x xs pairs) (All-tail (λ z. Differ (f z)) x xs each))
      (All-weaker (λ y. read y ≡ mark x) (λ y. All (λ z. y ≢ z) (flat_map f xs))
      (λ y is. All-weaker (λ z. mark x ≢ read z) (λ z. y ≢ z) (λ z apart same. apart (sym is ∙ ap read same)) (flat_map f xs) others)
      (f x) (marked x))
