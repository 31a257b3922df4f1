-- Children put on a list from the greatest piece number down.
use Rattle.std.proofs.Common.{◌≡◌, ℕ, suc, ◌-◌, ◌<◌, ◌≤◌, Bool, true, false, cond, List, [], ◌∷◌, ◌++◌, length, take, map, filter, reverse, refl, sym, ◌∙◌, ap, arith}
use Rattle.std.specs.List.{list_all}
use Rattle.std.proofs.lemmas.List.{map-append, reverse-append, append_assoc, append-nil, length-take, take-append-le}
use Rattle.std.proofs.lemmas.List.Elements.{filter-append}
use Rattle.geo_base.specs.declared.job.Job.{Job}
use Rattle.stackable.specs.declared.bounded.Bounded.{Bounded}
use Rattle.stackable.specs.Partial.{numbers_below, piece_below, candidates, children}
use Rattle.stackable.specs.Bounded.{with_bound}

-- the numbers below k of pieces that may stand below the partial
abbrev pub candidates_below : Job → List ℕ → ℕ → List ℕ
candidates_below job p k = filter (λ i. list_all (λ j. piece_below job j i) p) (numbers_below k)

-- the partial with each of them at its end, with bounds
abbrev pub children_below : Job → List ℕ → ℕ → List Bounded
children_below job p k = map (λ i. with_bound job (p ++ i ∷ [])) (candidates_below job p k)

module _ (job : Job) (p : List ℕ) where
  pub all_below : (k : ℕ) → candidates job p ≡ candidates_below job p k → children_below job p k ≡ map (with_bound job) (children job p)
  all_below k is = twice (candidates_below job p k) ∙ sym (ap (λ ks. map (with_bound job) (map (λ i. p ++ i ∷ []) ks)) is)
    where
      twice : (ks : List ℕ) → map (λ i. with_bound job (p ++ i ∷ [])) ks ≡ map (with_bound job) (map (λ i. p ++ i ∷ []) ks)
      twice [] = refl
      twice (k ∷ ks) = ap (λ bs. with_bound job (p ++ k ∷ []) ∷ bs) (twice ks)

  one_more : (k : ℕ) (b : Bool) → list_all (λ j. piece_below job j k) p ≡ b → children_below job p (suc k) ≡ children_below job p k ++ cond b (with_bound job (p ++ k ∷ []) ∷ []) []
  one_more k b is =
      let parts : candidates_below job p (suc k) ≡ candidates_below job p k ++ filter (λ i. list_all (λ j. piece_below job j i) p) (k ∷ []) = filter-append (λ i. list_all (λ j. piece_below job j i) p) (numbers_below k) (k ∷ []) in
      ap (map (λ i. with_bound job (p ++ i ∷ []))) parts
      ∙ (map-append (λ i. with_bound job (p ++ i ∷ [])) (candidates_below job p k) (filter (λ i. list_all (λ j. piece_below job j i) p) (k ∷ []))
      ∙ ap (λ bs. children_below job p k ++ bs) (last b is))
    where
      last : (b : Bool) → list_all (λ j. piece_below job j k) p ≡ b → map (λ i. with_bound job (p ++ i ∷ [])) (filter (λ i. list_all (λ j. piece_below job j i) p) (k ∷ [])) ≡ cond b (with_bound job (p ++ k ∷ []) ∷ []) []
      last true e = rw e refl
      last false e = rw e refl

  pub put : (n k : ℕ) (items pushed all : List Bounded) → 0 < n → k ≡ n - 1 → list_all (λ j. piece_below job j k) p ≡ true → pushed ≡ items ++ with_bound job (p ++ k ∷ []) ∷ []
      → items ++ reverse (children_below job p n) ≡ all → pushed ++ reverse (children_below job p k) ≡ all
  put n k items pushed all some is met push before =
      let next : n ≡ suc k = omega (arith, some, is) in
      let turned : reverse (children_below job p n) ≡ with_bound job (p ++ k ∷ []) ∷ reverse (children_below job p k) =
      ap (λ m. reverse (children_below job p m)) next ∙ (ap reverse (one_more k true met) ∙ reverse-append (children_below job p k) (with_bound job (p ++ k ∷ []) ∷ [])) in
      ap (λ bs. bs ++ reverse (children_below job p k)) push
      ∙ (append_assoc items (with_bound job (p ++ k ∷ []) ∷ []) (reverse (children_below job p k))
      ∙ (ap (λ bs. items ++ bs) (sym turned) ∙ before))

  pub left_out : (n k : ℕ) (items all : List Bounded) → 0 < n → k ≡ n - 1 → list_all (λ j. piece_below job j k) p ≡ false
      → items ++ reverse (children_below job p n) ≡ all → items ++ reverse (children_below job p k) ≡ all
  left_out n k items all some is unmet before =
      let next : n ≡ suc k = omega (arith, some, is) in
      let same : children_below job p n ≡ children_below job p k = ap (children_below job p) next ∙ (one_more k false unmet ∙ append-nil (children_below job p k)) in
      ap (λ bs. items ++ reverse bs) (sym same) ∙ before

-- a list that begins with another still does with one more at its end
pub front_stays : (xs ys zs : List Bounded) (z : Bounded) → take (length xs) ys ≡ xs → zs ≡ ys ++ z ∷ [] → take (length xs) zs ≡ xs
front_stays xs ys zs z begins is =
    let short : length xs ≤ length ys = omega (arith, ap (length {A = Bounded}) begins, length-take (length xs) ys) in
    ap (take (length xs)) is ∙ (take-append-le (length xs) ys (z ∷ []) short ∙ begins)
