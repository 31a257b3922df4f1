-- Which layers are compatible counts for the layers of some links alone.
use Rattle.std.proofs.Common.{◌≡◌, ◌∙◌, ℕ, zero, suc, ◌&&◌, Bool, cond, List, [], ◌∷◌, ◌++◌, map, filter, refl, ap, ap₂}
use Rattle.std.specs.Prelude.{Contains, flat_map}
use Rattle.geo_base.specs.declared.link.Link.{Link}
use Rattle.geo_base.specs.Link.{Compat, admits_below, stacks}
use Rattle.geo_base.specs.Chain.{chains}
use Rattle.geo_base.specs.Order.{same_target, context_cmp}
use Rattle.geo_base.specs.Best.{best_of}
use Rattle.geo_base.specs.Answer.{best}
use Rattle.geo_base.proofs.Members.{member_here, member_there, member_of_filter}

module _ {X : Type 0} where
  -- tests that agree on the members keep the same ones
  filter_in : (p r : X → Bool) (xs : List X) → ((x : X) → Contains xs x → p x ≡ r x) → filter p xs ≡ filter r xs
  filter_in p r [] same = refl
  filter_in p r (x ∷ xs) same = ap₂ (λ b l. cond b (x ∷ l) l) (same x (member_here x xs)) (filter_in p r xs (λ y c. same y (member_there x y xs c)))

  flat_map_in : {Y : Type 0} (f g : X → List Y) (xs : List X) → ((x : X) → Contains xs x → f x ≡ g x) → flat_map f xs ≡ flat_map g xs
  flat_map_in f g [] same = refl
  flat_map_in f g (x ∷ xs) same = ap₂ (λ a b. a ++ b) (same x (member_here x xs)) (flat_map_in f g xs (λ y c. same y (member_there x y xs c)))

  -- and have the same chains
  pub chains_same : (p r : X → X → Bool) (n : ℕ) (xs : List X) → ((a b : X) → Contains xs a → Contains xs b → p a b ≡ r a b) → chains p n xs ≡ chains r n xs
  chains_same p r zero xs same = refl
  chains_same p r (suc n) xs same =
      flat_map_in (λ a. (a ∷ []) ∷ map (λ c. a ∷ c) (chains p n (filter (p a) xs))) (λ a. (a ∷ []) ∷ map (λ c. a ∷ c) (chains r n (filter (r a) xs))) xs
      (λ a in_a.
      let one : chains p n (filter (p a) xs) ≡ chains p n (filter (r a) xs) = ap (chains p n) (filter_in (p a) (r a) xs (λ b in_b. same a b in_a in_b)) in
      let two : chains p n (filter (r a) xs) ≡ chains r n (filter (r a) xs) = chains_same p r n (filter (r a) xs) (λ b c in_b in_c. same b c (member_of_filter (r a) xs b in_b).0 (member_of_filter (r a) xs c in_c).0) in
      ap (λ (l : List (List X)). (a ∷ []) ∷ map (λ c. a ∷ c) l) (one ∙ two))

-- so links have one answer by each of two relations that agree on their layers
pub best_same : (c d : Compat) (links : List Link) → ((a b : Link) → Contains links a → Contains links b → c a.layer b.layer ≡ d a.layer b.layer) → best c links ≡ best d links
best_same c d links same = ap (best_of context_cmp same_target 40) (chains_same (stacks c) (stacks d) 16 links (λ a b in_a in_b. ap (λ e. admits_below a b && e) (same a b in_a in_b)))
