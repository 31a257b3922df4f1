-- What is kept of earlier openings, and how it changes.
use Rattle.std.proofs.Common.{◌≡◌, ℕ, zero, suc, ◌-◌, ◌<◌, ◌≤◌, ◌⊎◌, inl, inr, ⊎_elim, List, [], ◌∷◌, ◌++◌, length, take, get_or, All, refl, sym, ◌∙◌, ap, subst, arith, length-append, Option, Some, None, slice_get}
use Rattle.std.specs.Prelude.{Contains, Result, Ok, Err, IfOk, slice_index_or, slice_set}
use Rattle.std.specs.Option.{IfSome}
use Rattle.std.proofs.lemmas.List.{get_or_default, length-take-le}
use Rattle.std.proofs.lemmas.List.Elements.{All-append, All-cons, All-take, All-contains}
use Rattle.geo_base.specs.declared.link.Link.{Link}
use Rattle.geo_base.specs.declared.cells.Cell.{Cell}
use Rattle.geo_base.specs.declared.job.Job.{Job}
use Rattle.geo_base.specs.TileView.{TileView}
use Rattle.geo_base.specs.Parents.{best_parent}
use Rattle.geo_base.proofs.Members.{member_here, member_there}
use Rattle.stackable.specs.Partial.{links_at, survivors}
use Rattle.search_core.specs.declared.fronts.Front.{Front}
use Rattle.search_core.specs.Kept.{IsReadyOf, AreReady, AreFronts, EndsWith, Kept, AreKept}

-- what stands at a place after one place was set anew
set_some : {X : Type 0} (xs : List (Option X)) (k i : ℕ) (o : Option X) (r : X) → slice_index_or (slice_set xs k o) i None ≡ Some r
    → ((i ≡ k) × (o ≡ Some r)) ⊎ (slice_index_or xs i None ≡ Some r)
set_some [] k i o r e = inr e
set_some (x ∷ xs) zero zero o r e = inl (refl, e)
set_some (x ∷ xs) zero (suc i) o r e = inr e
set_some (x ∷ xs) (suc k) zero o r e = inr e
set_some (x ∷ xs) (suc k) (suc i) o r e = ⊎_elim (λ p. inl (ap suc p.0, p.1)) (λ q. inr q) (set_some xs k i o r e)

pub get_from : {X : Type 0} (xs : List X) (k : ℕ) (d x : X) → slice_get xs k ≡ Some x → get_or xs k d ≡ x
get_from [] k d x e = absurd (cc e)
get_from (y ∷ ys) zero d x e = cc e
get_from (y ∷ ys) (suc k) d x e = get_from ys k d x e

member_from : {X : Type 0} (xs : List X) (k : ℕ) (x : X) → slice_get xs k ≡ Some x → Contains xs x
member_from [] k x e = absurd (cc e)
member_from (y ∷ ys) zero x e = subst (Contains (y ∷ ys)) (cc e) (member_here y ys)
member_from (y ∷ ys) (suc k) x e = member_there y x ys (member_from ys k x e)

module _ (job : Job) (cells : List (List Cell)) where
  pub ready_set : (ready : List (Option (List Link))) (k : ℕ) (links : List Link) → AreReady job cells ready → IsReadyOf job cells k links → AreReady job cells (slice_set ready k (Some links))
  ready_set ready k links are is = λ i r e.
      ⊎_elim
      (λ (p : (i ≡ k) × (Some links ≡ Some r)). let same : links ≡ r = cc p.1 in subst (λ n. IsReadyOf job cells n r) (sym p.0) (subst (IsReadyOf job cells k) same is))
      (λ q. are i r q)
      (set_some ready k i (Some links) r e)

  pub ready_gone : (ready : List (Option (List Link))) (k : ℕ) → AreReady job cells ready → AreReady job cells (slice_set ready k None)
  ready_gone ready k are = λ i r e.
      ⊎_elim
      (λ (p : (i ≡ k) × (None ≡ Some r)). absurd (cc p.1))
      (λ q. are i r q)
      (set_some ready k i None r e)

  -- made anew from a piece's cells
  pub ready_if : (k : ℕ) (links : List Link) {E : Type 0} (result : Result (List Link) E) → links ≡ links_at job cells k
      → IfOk result (λ r. All (Contains links) r) → IfOk result (λ r. (t : TileView) → best_parent r t ≡ best_parent links t) → IfOk result (IsReadyOf job cells k)
  ready_if k links (Ok r) same chosen best = record { chosen = subst (λ (ls : List Link). All (Contains ls) r) same chosen; best = λ t. best t ∙ ap (λ (ls : List Link). best_parent ls t) same }
  ready_if k links (Err e) same chosen best = chosen

  -- what was kept for a piece is ready for it
  pub held_if : (ready : List (Option (List Link))) (k : ℕ) (here held : Option (List Link)) → AreReady job cells ready → k < length ready → here ≡ get_or ready k here → held ≡ here → IfSome held (IsReadyOf job cells k)
  held_if ready k here held are inside at same = by held (sym (same ∙ (at ∙ get_or_default ready k here None inside)))
    where
      by : (o : Option (List Link)) → get_or ready k None ≡ o → IfSome o (IsReadyOf job cells k)
      by None e = tt
      by (Some links) e = are k links e

  -- the contexts that are kept last are the survivors of the last pieces
  pub last_survivors : (kept : Kept) (items : List Front) (ready : List (Option (List Link))) (n : ℕ) (d : Front) (p : List ℕ) → record { fronts = items; ready = ready } ≡ kept → AreKept job cells kept → EndsWith kept.fronts p → n ≡ length items → d ≡ get_or items (n - 1) d → d.survivors ≡ survivors job cells p
  last_survivors kept items ready n d p view are ends count at = by (subst (λ (x : Kept). AreKept job cells x) (sym view) are) (subst (λ (x : Kept). EndsWith x.fronts p) (sym view) ends)
    where
      by : AreKept job cells (record { fronts = items; ready = ready }) → EndsWith items p → d.survivors ≡ survivors job cells p
      by are ends =
          let f = ends.0 in
          let there : get_or items (length items - 1) d ≡ f = get_from items (length items - 1) d f ends.1 in
          let same : d ≡ f = at ∙ (ap (λ (m : ℕ). get_or items (m - 1) d) count ∙ there) in
          ap (λ (x : Front). x.survivors) same ∙ (All-contains (λ (x : Front). x.survivors ≡ survivors job cells x.partial) items f are.fronts (member_from items (length items - 1) f ends.1)
          ∙ ap (survivors job cells) ends.2)

  -- what is found last is the survivors
  pub found_is : (kept : Kept) (p : List ℕ) (found : List (List Link)) → AreKept job cells kept → EndsWith kept.fronts p → ((f : Front) → slice_get kept.fronts (length kept.fronts - 1) ≡ Some f → found ≡ f.survivors) → found ≡ survivors job cells p
  found_is kept p found are ends is =
      let f = ends.0 in
      is f ends.1 ∙ (All-contains (λ (x : Front). x.survivors ≡ survivors job cells x.partial) kept.fronts f are.fronts (member_from kept.fronts (length kept.fronts - 1) f ends.1)
      ∙ ap (survivors job cells) ends.2)

  -- one more is kept
  pub kept_more : (kept : Kept) (items after : List Front) (ready later : List (Option (List Link))) (f : Front) → record { fronts = items; ready = ready } ≡ kept → AreKept job cells kept → after ≡ items ++ f ∷ [] → f.survivors ≡ survivors job cells f.partial
      → AreReady job cells later → length later ≡ length ready → AreKept job cells (record { fronts = after; ready = later })
  kept_more kept items after ready later f view are is new made sized = by (subst (λ (x : Kept). AreKept job cells x) (sym view) are)
    where
      by : AreKept job cells (record { fronts = items; ready = ready }) → AreKept job cells (record { fronts = after; ready = later })
      by are = record {
        fronts = subst (λ (fs : List Front). AreFronts job cells fs) (sym is) (All-append (λ (x : Front). x.survivors ≡ survivors job cells x.partial) items (f ∷ []) are.fronts (All-cons (λ (x : Front). x.survivors ≡ survivors job cells x.partial) f [] new (λ k d l. absurd (omega (arith, l)))));
        ready = made;
        sized = sized ∙ are.sized;
      }

  -- some of the last are dropped
  pub kept_less : (kept : Kept) (items after : List Front) (ready : List (Option (List Link))) (n : ℕ) → record { fronts = items; ready = ready } ≡ kept → AreKept job cells kept → after ≡ take n items → AreKept job cells (record { fronts = after; ready = ready })
  kept_less kept items after ready n view are is = by (subst (λ (x : Kept). AreKept job cells x) (sym view) are)
    where
      by : AreKept job cells (record { fronts = items; ready = ready }) → AreKept job cells (record { fronts = after; ready = ready })
      by are = record {
        fronts = subst (λ (fs : List Front). AreFronts job cells fs) (sym is) (All-take (λ (x : Front). x.survivors ≡ survivors job cells x.partial) n items are.fronts);
        ready = are.ready;
        sized = are.sized;
      }

pub ends_more : (items after : List Front) (f : Front) → after ≡ items ++ f ∷ [] → EndsWith after f.partial
ends_more items after f is = subst (λ (fs : List Front). EndsWith fs f.partial) (sym is) (f, last items, refl)
  where
    last : (xs : List Front) → slice_get (xs ++ f ∷ []) (length (xs ++ f ∷ []) - 1) ≡ Some f
    last xs = let n : length (xs ++ f ∷ []) - 1 ≡ length xs = omega (arith, length-append xs (f ∷ [])) in ap (λ (k : ℕ). slice_get (xs ++ f ∷ []) k) n ∙ at xs
      where
        at : (xs : List Front) → slice_get (xs ++ f ∷ []) (length xs) ≡ Some f
        at [] = refl
        at (x ∷ xs) = at xs

-- the last that is left is of the first of some pieces
pub record IsCut (cut : List Front) (pieces : List ℕ) (f : Front) : Type 0 where
  pub last : slice_get cut (length cut - 1) ≡ Some f
  pub some : 0 < length f.partial
  pub few : length f.partial ≤ length pieces
  pub front : f.partial ≡ take (length f.partial) pieces

get_take : {X : Type 0} (xs : List X) (n k : ℕ) → k < n → slice_get (take n xs) k ≡ slice_get xs k
get_take xs zero k l = absurd (omega (arith, l))
get_take [] (suc n) k l = refl
get_take (x ∷ xs) (suc n) zero l = refl
get_take (x ∷ xs) (suc n) (suc k) l = get_take xs n k (omega (arith, l))

pub is_cut : (items cut all : List Front) (pieces : List ℕ) (n : ℕ) (d : Front) → all ≡ items → cut ≡ take n items → n ≤ length all → 0 < n → d ≡ get_or cut (n - 1) d
    → (f : Front) × (slice_get all (n - 1) ≡ Some f) × (0 < length f.partial) × (length f.partial ≤ length pieces) × (take (length f.partial) pieces ≡ f.partial) → IsCut cut pieces d
is_cut items cut all pieces n d same is within some at fact =
    let f = fact.0 in
    let long : length cut ≡ n = ap (λ (fs : List Front). length fs) is ∙ length-take-le n items (subst (λ (fs : List Front). n ≤ length fs) same within) in
    let there : slice_get cut (n - 1) ≡ Some f = ap (λ (fs : List Front). slice_get fs (n - 1)) is ∙ (get_take items n (n - 1) (omega (arith, some)) ∙ (ap (λ (fs : List Front). slice_get fs (n - 1)) (sym same) ∙ fact.1)) in
    let one : d ≡ f = at ∙ get_from cut (n - 1) d f there in
    subst (λ (x : Front). IsCut cut pieces x) (sym one) (record {
      last = ap (λ (m : ℕ). slice_get cut (m - 1)) long ∙ there;
      some = fact.2;
      few = fact.3;
      front = sym fact.4;
    })
