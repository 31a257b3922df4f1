-- Contexts that are offered one after another.
use Rattle.std.proofs.Common.{◌≡◌, ◌∙◌, ◌+◌, ◌-◌, ◌<◌, ℕ, suc, List, [], ◌∷◌, ◌++◌, length, take, get_or, map, filter, refl, sym, ap, append_assoc}
use Rattle.std.specs.Prelude.{flat_map}
use Rattle.std.proofs.lemmas.List.{map-append, take_more, flat_map_more}
use Rattle.geo_base.specs.declared.link.Link.{Link}
use Rattle.geo_base.specs.Link.{Compat, stacks}
use Rattle.geo_base.specs.Chain.{chains}
use Rattle.geo_base.specs.Order.{context_cmp, same_target}
use Rattle.geo_base.specs.Best.{best_of}
use Rattle.geo_base.proofs.OrderLaws.{context_cmp_total}
use Rattle.geo_base.proofs.MergeFacts.{best_of_best_and}
use Rattle.geo_base.proofs.AnswerFacts.{same_target_equiv}
use Rattle.plain_answer.specs.Offered.{with_more}

-- what is offered to the best of some contexts is offered to them all
pub offered_more : (top seen more : List (List Link)) → top ≡ best_of context_cmp same_target 40 seen → best_of context_cmp same_target 40 (top ++ more) ≡ best_of context_cmp same_target 40 (seen ++ more)
offered_more top seen more is = ap (λ (t : List (List Link)). best_of context_cmp same_target 40 (t ++ more)) is ∙ best_of_best_and context_cmp_total same_target_equiv 40 seen more

-- a context before each of some chains, and the chains behind one more link
behind_one : (context : List Link) (a : Link) (cs : List (List Link)) → map (λ c. context ++ c) (map (λ c. a ∷ c) cs) ≡ map (λ c. (context ++ a ∷ []) ++ c) cs
behind_one context a [] = refl
behind_one context a (c ∷ cs) = rw (append_assoc context (a ∷ []) c, behind_one context a cs) refl

-- the contexts that go on from one, by their next link
each_next : (compat : Compat) (n : ℕ) (context below : List Link) (links : List Link)
    → map (λ c. context ++ c) (flat_map (λ a. (a ∷ []) ∷ map (λ c. a ∷ c) (chains (stacks compat) n (filter (stacks compat a) below))) links)
    ≡ flat_map (λ a. with_more compat n (context ++ a ∷ []) (filter (stacks compat a) below)) links
each_next compat n context below [] = refl
each_next compat n context below (a ∷ links) =
    let cs = chains (stacks compat) n (filter (stacks compat a) below) in
    map-append (λ c. context ++ c) ((a ∷ []) ∷ map (λ c. a ∷ c) cs) (flat_map (λ a. (a ∷ []) ∷ map (λ c. a ∷ c) (chains (stacks compat) n (filter (stacks compat a) below))) links)
    ∙ (ap (λ l. ((context ++ a ∷ []) ∷ l) ++ map (λ c. context ++ c) (flat_map (λ a. (a ∷ []) ∷ map (λ c. a ∷ c) (chains (stacks compat) n (filter (stacks compat a) below))) links)) (behind_one context a cs)
    ∙ ap (λ l. with_more compat n (context ++ a ∷ []) (filter (stacks compat a) below) ++ l) (each_next compat n context below links))

-- a context and all that go on from it, by their next link
pub with_more-suc : (compat : Compat) (n : ℕ) (context below : List Link) → with_more compat (suc n) context below ≡ context ∷ flat_map (λ a. with_more compat n (context ++ a ∷ []) (filter (stacks compat a) below)) below
with_more-suc compat n context below = ap (λ l. context ∷ l) (each_next compat n context below below)

-- where there is room for no more links, the context stands alone
pub full : (compat : Compat) (seen : List (List Link)) (context below : List Link) (n : ℕ) → n ≡ 0 → seen ++ context ∷ [] ≡ seen ++ with_more compat n context below
full compat seen context below n none = ap (λ m. seen ++ with_more compat m context below) (sym none)

-- the context, and then all that go on from it
pub gone_on : (compat : Compat) (seen : List (List Link)) (context below : List Link) (n m : ℕ) → n ≡ suc m
    → (seen ++ context ∷ []) ++ flat_map (λ a. with_more compat m (context ++ a ∷ []) (filter (stacks compat a) below)) below ≡ seen ++ with_more compat n context below
gone_on compat seen context below n m is =
    append_assoc seen (context ∷ []) (flat_map (λ a. with_more compat m (context ++ a ∷ []) (filter (stacks compat a) below)) below)
    ∙ ap (λ l. seen ++ l) (sym (with_more-suc compat m context below))
    ∙ ap (λ k. seen ++ with_more compat k context below) (sym is)

-- one more link goes on
pub goes_on : (compat : Compat) (base : List (List Link)) (context below : List Link) (m k i : ℕ) (a d : Link) → k ≡ m → i < length below → a ≡ get_or below i d
    → (base ++ flat_map (λ b. with_more compat m (context ++ b ∷ []) (filter (stacks compat b) below)) (take i below)) ++ with_more compat k (context ++ a ∷ []) (filter (stacks compat a) below)
    ≡ base ++ flat_map (λ b. with_more compat m (context ++ b ∷ []) (filter (stacks compat b) below)) (take (i + 1) below)
goes_on compat base context below m k i a d same within here =
    ap (λ n. (base ++ flat_map (λ b. with_more compat m (context ++ b ∷ []) (filter (stacks compat b) below)) (take i below)) ++ with_more compat n (context ++ a ∷ []) (filter (stacks compat a) below)) same
    ∙ (flat_map_more (λ b. with_more compat m (context ++ b ∷ []) (filter (stacks compat b) below)) base (take i below) a
    ∙ ap (λ l. base ++ flat_map (λ b. with_more compat m (context ++ b ∷ []) (filter (stacks compat b) below)) l) (sym (take_more below i d within ∙ ap (λ (x : Link). take i below ++ x ∷ []) (sym here))))

-- one more link with all that go on from it
pub one_target_more : (compat : Compat) (links : List Link) (i : ℕ) (a : Link) (rest new : List Link) → i < length links → a ≡ get_or links i a → new ≡ a ∷ [] → rest ≡ filter (stacks compat a) links
    → flat_map (λ b. with_more compat 15 (b ∷ []) (filter (stacks compat b) links)) (take i links) ++ with_more compat (16 - length new) new rest
    ≡ flat_map (λ b. with_more compat 15 (b ∷ []) (filter (stacks compat b) links)) (take (i + 1) links)
one_target_more compat links i a rest new within here is left =
    let f : Link → List (List Link) = λ b. with_more compat 15 (b ∷ []) (filter (stacks compat b) links) in
    ap (λ (x : List Link). flat_map f (take i links) ++ with_more compat (16 - length x) x rest) is
    ∙ (ap (λ (x : List Link). flat_map f (take i links) ++ with_more compat 15 (a ∷ []) x) left
    ∙ (flat_map_more f [] (take i links) a
    ∙ ap (flat_map f) (sym (take_more links i a within ∙ ap (λ (x : Link). take i links ++ x ∷ []) (sym here)))))
