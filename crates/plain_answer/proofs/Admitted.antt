-- The links that may follow one more link.
use Rattle.std.proofs.Common.{◌≡◌, ◌<◌, ◌≤◌, ◌∙◌, ◌+◌, ℕ, zero, suc, Bool, true, false, List, [], ◌∷◌, ◌++◌, length, get_or, filter, take, drop, All, refl, sym, ap, subst, arith}
use Rattle.std.specs.Prelude.{AllPairs}
use Rattle.std.proofs.lemmas.Bool.{and_parts, le-ltb}
use Rattle.std.proofs.lemmas.List.{append-nil, take-append-drop, get_or-drop, length-drop}
use Rattle.std.proofs.lemmas.List.Elements.{filter-append, All-filter, All-cons, All-head, All-tail, All-push}
use Rattle.geo_base.specs.declared.link.Link.{Link}
use Rattle.geo_base.specs.Link.{Compat, admits_below, stacks}

-- what holds of all links holds of those that are admitted
pub kept : (P : Link → Type 0) (compat : Compat) (a : Link) (below rest : List Link) → rest ≡ filter (stacks compat a) below → All P below → All P rest
kept P compat a below rest is all = subst (All P) (sym is) (All-filter (stacks compat a) P below all)

-- each of those that are admitted is admitted by the link and by those before it
pub admitted_by_all : (compat : Compat) (context new below : List Link) (a : Link) → new ≡ context ++ a ∷ [] → All (λ l. All (λ b. admits_below b l ≡ true) context) below
    → All (λ l. All (λ b. admits_below b l ≡ true) new) (filter (stacks compat a) below)
admitted_by_all compat context new [] a is all = λ k d less. absurd (omega (arith, less))
admitted_by_all compat context new (l ∷ below) a is all =
    let more = admitted_by_all compat context new below a is (All-tail (λ l. All (λ b. admits_below b l ≡ true) context) l below all) in
    let here = All-head (λ l. All (λ b. admits_below b l ≡ true) context) l below all in
    by (stacks compat a l) refl here more
  where
    by : (t : Bool) → stacks compat a l ≡ t → All (λ b. admits_below b l ≡ true) context → All (λ l. All (λ b. admits_below b l ≡ true) new) (filter (stacks compat a) below)
        → All (λ l. All (λ b. admits_below b l ≡ true) new) (filter (stacks compat a) (l ∷ below))
    by true is_in here more =
        let one : All (λ b. admits_below b l ≡ true) new = subst (All (λ b. admits_below b l ≡ true)) (sym is) (All-push (λ b. admits_below b l ≡ true) context a here (and_parts (admits_below a l) (compat a.layer l.layer) is_in).0) in
        rw is_in (All-cons (λ l. All (λ b. admits_below b l ≡ true) new) l (filter (stacks compat a) below) one more)
    by false is_out here more = rw is_out more

-- a link of no smaller layer isn't admitted
not_admitted : (compat : Compat) (a l : Link) → a.layer ≤ l.layer → stacks compat a l ≡ false
not_admitted compat a l least = rw (le-ltb l.layer a.layer least) refl

none_admitted : (compat : Compat) (a : Link) (links : List Link) → All (λ l. a.layer ≤ l.layer) links → filter (stacks compat a) links ≡ []
none_admitted compat a [] least = refl
none_admitted compat a (l ∷ links) least =
    rw (not_admitted compat a l (All-head (λ l. a.layer ≤ l.layer) l links least)) (none_admitted compat a links (All-tail (λ l. a.layer ≤ l.layer) l links least))

-- those that are admitted stand before the links of no smaller layer
pub admitted_before : (compat : Compat) (a : Link) (n : ℕ) (links : List Link) → All (λ l. a.layer ≤ l.layer) (drop n links) → filter (stacks compat a) (take n links) ≡ filter (stacks compat a) links
admitted_before compat a n links least =
    let p : Link → Bool = stacks compat a in
    sym (append-nil (filter p (take n links)))
    ∙ (ap (λ l. filter p (take n links) ++ l) (sym (none_admitted compat a (drop n links) least))
    ∙ (sym (filter-append p (take n links) (drop n links))
    ∙ ap (filter p) (take-append-drop n links)))

-- where links rise by layer, a layer that isn't above the one at a place isn't above those behind it
pub none_smaller : (links : List Link) (n layer : ℕ) → AllPairs (λ a b. a.layer ≤ b.layer) links → ((d : Link) → layer ≤ (get_or links n d).layer) → All (λ l. layer ≤ l.layer) (drop n links)
none_smaller links n layer rising least = by
  where
    by : (k : ℕ) (d : Link) → k < length (drop n links) → layer ≤ (get_or (drop n links) k d).layer
    by zero d within = subst (λ (l : Link). layer ≤ l.layer) (sym (get_or-drop n links zero d)) (subst (λ m. layer ≤ (get_or links m d).layer) (omega arith) (least d))
    by (suc k) d within =
        let more : (get_or links n d).layer ≤ (get_or links (n + suc k) d).layer = rising n (n + suc k) d (omega arith) (omega (arith, within, length-drop n links)) in
        let here = least d in
        subst (λ (l : Link). layer ≤ l.layer) (sym (get_or-drop n links (suc k) d)) (omega (arith, more, here))
