-- What the calls of a worker do to what it has in hand. Its stack is kept with the top partial last.
use Rattle.std.proofs.Common.{◌≡◌, ℕ, zero, suc, ◌+◌, ◌<◌, ◌≤◌, Bool, true, false, ⊎_elim, List, [], ◌∷◌, ◌++◌, length, map, reverse, take, get_or, All, refl, sym, ◌∙◌, ap, ap₂, subst, arith, nat_lt, Some, None, slice_get}
use Rattle.std.specs.Prelude.{◌||◌}
use Rattle.std.specs.List.{list_any}
use Rattle.std.proofs.lemmas.Bool.{cases_Bool}
use Rattle.std.proofs.lemmas.List.{reverse-append, reverse-reverse, map-append, take_more, take_all, get_or_push, length_push, get_or-map, length-map, length-reverse}
use Rattle.std.proofs.lemmas.List.Elements.{All-get_or, All-push, All-take}
use Rattle.std.proofs.Math.Seq.{take-append_seam}
use Rattle.geo_base.specs.declared.link.Link.{Link}
use Rattle.geo_base.specs.declared.cells.Cell.{Cell}
use Rattle.geo_base.specs.declared.job.Job.{Job}
use Rattle.geo_base.specs.Job.{IsJob}
use Rattle.stackable.specs.declared.bounded.Bounded.{Bounded}
use Rattle.stackable.specs.Bounded.{with_bound, IsBounded}
use Rattle.stackable.specs.Partial.{bound, children, roots, survivors, IsPartial}
use Rattle.stackable.proofs.TreeFacts.{root_is_partial, child_at}
use Rattle.search_core.specs.Machine.{top_partial, may_cut, may_open, is_low, is_high, claimed, cut, opened, children_of}
use Rattle.top_list.specs.Merged.{merged}
use Rattle.search_core.specs.Hand.{Hand, as_worker}

-- the partials of a stack that is kept with bounds
abbrev pub partials_of : List Bounded → List (List ℕ)
partials_of items = map (λ (b : Bounded). b.partial) items

-- what is in hand, by its parts
abbrev pub in_hand : Job → List Bounded → ℕ → List (List Link) → Hand
in_hand job items seen top = record { job = job; stack = reverse (map (λ (b : Bounded). b.partial) items); seen = seen; top = top }

-- a list's last, and those before it
pub parts_of : (items : List Bounded) (n : ℕ) (b : Bounded) → length items ≡ n + 1 → b ≡ get_or items n b → items ≡ take n items ++ b ∷ []
parts_of items n b long at =
    sym (take_all (n + 1) items (omega (arith, long))) ∙ (take_more items n b (omega (arith, long)) ∙ ap (λ (x : Bounded). take n items ++ x ∷ []) (sym at))

pub last_of : {X : Type 0} (P : X → Type 0) (xs : List X) (x : X) → All P (xs ++ x ∷ []) → P x
last_of P xs x all = subst P (get_or_push xs x x (length xs) refl) (All-get_or P (xs ++ x ∷ []) (length xs) x (omega (arith, length_push xs x)) all)

pub front_of : {X : Type 0} (P : X → Type 0) (xs ys : List X) → All P (xs ++ ys) → All P xs
front_of P xs ys all = subst (All P) (take-append_seam xs ys) (All-take P (length xs) (xs ++ ys) all)

-- the last comes first when a stack is seen from the top on
pub turned : (items before : List Bounded) (b : Bounded) → items ≡ before ++ b ∷ [] → reverse (partials_of items) ≡ b.partial ∷ reverse (partials_of before)
turned items before b is =
    ap (λ bs. reverse (partials_of bs)) is
    ∙ (ap reverse (map-append (λ (x : Bounded). x.partial) before (b ∷ [])) ∙ reverse-append (partials_of before) (b.partial ∷ []))

-- partials that were put on a stack in turn, the first last
pub on_top : (job : Job) (before after : List Bounded) (kids : List (List ℕ)) → after ≡ before ++ reverse (map (with_bound job) kids) → reverse (partials_of after) ≡ kids ++ reverse (partials_of before)
on_top job before after kids is =
    ap (λ bs. reverse (partials_of bs)) is
    ∙ (ap reverse (map-append (λ (x : Bounded). x.partial) before (reverse (map (with_bound job) kids)))
    ∙ (reverse-append (partials_of before) (partials_of (reverse (map (with_bound job) kids)))
    ∙ ap (λ ps. ps ++ reverse (partials_of before)) (ap reverse (turned_back (map (with_bound job) kids)) ∙ (reverse-reverse (partials_of (map (with_bound job) kids)) ∙ plain kids))))
  where
    turned_back : (bs : List Bounded) → partials_of (reverse bs) ≡ reverse (partials_of bs)
    turned_back [] = refl
    turned_back (b ∷ bs) =
        ap partials_of (reverse-append (b ∷ []) bs)
        ∙ (map-append (λ (x : Bounded). x.partial) (reverse bs) (b ∷ [])
        ∙ (ap (λ ps. ps ++ b.partial ∷ []) (turned_back bs) ∙ sym (reverse-append (b.partial ∷ []) (partials_of bs))))

    plain : (ps : List (List ℕ)) → partials_of (map (with_bound job) ps) ≡ ps
    plain [] = refl
    plain (p ∷ ps) = ap (λ qs. p ∷ qs) (plain ps)

-- each child is a partial
pub kids_are_partials : (job : Job) → IsJob job → (found : List (List Link)) (p : List ℕ) → IsPartial job p → (k : ℕ) (d : List ℕ) → k < length (children_of job found p) → IsPartial job (get_or (children_of job found p) k d)
kids_are_partials job fine [] p is k d l = absurd (omega (arith, l))
kids_are_partials job fine (c ∷ found) p is k d l = child_at job fine p is (children job p) refl k d l

-- children are kept with their bounds
pub kids_are_bounded : (job : Job) (kids : List (List ℕ)) → ((k : ℕ) (d : List ℕ) → k < length kids → IsPartial job (get_or kids k d)) → All (IsBounded job) (reverse (map (with_bound job) kids))
kids_are_bounded job [] are = λ i d l. absurd (omega (arith, l))
kids_are_bounded job (p ∷ kids) are =
    subst (All (IsBounded job)) (sym (reverse-append (with_bound job p ∷ []) (map (with_bound job) kids)))
    (All-push (IsBounded job) (reverse (map (with_bound job) kids)) (with_bound job p)
    (kids_are_bounded job kids (λ k d l. are (suc k) d (omega (arith, l))))
    (record { partial = are 0 p (omega arith); bound = refl }))

pub get_some : {X : Type 0} (xs : List X) (k : ℕ) (d : X) → k < length xs → slice_get xs k ≡ Some (get_or xs k d)
get_some [] k d l = absurd (omega (arith, l))
get_some (x ∷ xs) zero d l = refl
get_some (x ∷ xs) (suc k) d l = get_some xs k d (omega (arith, l))

pub get_none : {X : Type 0} (xs : List X) (k : ℕ) → length xs ≤ k → slice_get xs k ≡ None
get_none [] k l = refl
get_none (x ∷ xs) zero l = absurd (omega (arith, l))
get_none (x ∷ xs) (suc k) l = get_none xs k (omega (arith, l))

-- roots that are kept with their bounds
module _ (job : Job) (kept : List Bounded) where
  pub kept_many : kept ≡ map (with_bound job) (roots job) → length kept ≡ length (roots job)
  kept_many are = ap (length {A = Bounded}) are ∙ length-map (roots job) (with_bound job)

  pub kept_is : (k : ℕ) (r : Bounded) → kept ≡ map (with_bound job) (roots job) → k < length kept → r ≡ get_or kept k r → r ≡ with_bound job (get_or (roots job) k [])
  kept_is k r are inside at =
      at ∙ (ap (λ bs. get_or bs k r) are ∙ get_or-map (with_bound job) (roots job) k [] r (omega (arith, inside, kept_many are)))

  pub kept_at : (k : ℕ) (r : Bounded) → kept ≡ map (with_bound job) (roots job) → k < length kept → r ≡ get_or kept k r → slice_get (roots job) k ≡ Some r.partial
  kept_at k r are inside at =
      get_some (roots job) k [] (omega (arith, inside, kept_many are)) ∙ ap (λ (b : Bounded). Some b.partial) (sym (kept_is k r are inside at))

pub open_some : (job : Job) (h : Hand) → may_open job (as_worker [] h) ≡ true → 0 < length h.stack
open_some job h may = by_stack h.stack may
  where
    by_stack : (st : List (List ℕ)) → is_high job h.seen (top_partial st) ≡ true → 0 < length st
    by_stack [] e = absurd (cc e)
    by_stack (p ∷ rest) e = omega arith

-- a test over a list that is turned round
any_reverse : {X : Type 0} (h : X → Bool) (xs : List X) → list_any h (reverse xs) ≡ list_any h xs
any_reverse h [] = refl
any_reverse h (x ∷ xs) = ap (list_any h) (reverse-append (x ∷ []) xs) ∙ (any_both (reverse xs) (x ∷ []) ∙ (ap (λ b. b || (h x || false)) (any_reverse h xs) ∙ swapped (list_any h xs) (h x)))
  where
    any_both : (ys zs : List _) → list_any h (ys ++ zs) ≡ (list_any h ys || list_any h zs)
    any_both [] zs = refl
    any_both (y ∷ ys) zs = ⊎_elim (λ e. rw e refl) (λ e. rw e (any_both ys zs)) (cases_Bool (h y))

    swapped : (a b : Bool) → (a || (b || false)) ≡ (b || a)
    swapped true true = refl
    swapped true false = refl
    swapped false true = refl
    swapped false false = refl

module _ (job : Job) (items : List Bounded) (seen : ℕ) (top : List (List Link)) (h : Hand) (view : in_hand job items seen top ≡ h) where
  pub own_job : job ≡ h.job
  own_job = ap (λ (x : Hand). x.job) view

  pub stack_is : reverse (partials_of items) ≡ h.stack
  stack_is = ap (λ (x : Hand). x.stack) view

  pub stack_some : 0 < length h.stack → 0 < length items
  stack_some some =
      let same : length items ≡ length h.stack = sym (length-map items (λ (b : Bounded). b.partial)) ∙ (sym (length-reverse (partials_of items)) ∙ ap (λ (st : List (List ℕ)). length st) stack_is) in
      omega (arith, same, some)

  -- the bound of the top partial against the floor that was seen
  pub low_is : (n : ℕ) (b : Bounded) → length items ≡ n + 1 → b ≡ get_or items n b → All (IsBounded job) items → nat_lt b.bound seen ≡ may_cut h.job (as_worker [] h)
  low_is n b long at are =
      let is : IsBounded job b = subst (IsBounded job) (sym at) (All-get_or (IsBounded job) items n b (omega (arith, long)) are) in
      subst (λ (x : Hand). nat_lt b.bound seen ≡ may_cut x.job (as_worker [] x)) view
      (ap (λ m. nat_lt m seen) is.bound ∙ ap (λ st. is_low job seen (top_partial st)) (sym (turned items (take n items) b (parts_of items n b long at))))

  -- without the top partial
  pub cuts_top : (before : List Bounded) (b : Bounded) → items ≡ before ++ b ∷ [] → (claims : List ℕ) → as_worker claims (in_hand job before seen top) ≡ cut (as_worker claims h)
  cuts_top before b is claims =
      subst (λ (x : Hand). as_worker claims (in_hand job before seen top) ≡ cut (as_worker claims x)) view
      (sym (ap (λ st. cut (as_worker claims (record { job = job; stack = st; seen = seen; top = top }))) (turned items before b is)))

  -- a root on the empty stack
  module _ (kept : List Bounded) (k : ℕ) (r : Bounded) (are : kept ≡ map (with_bound h.job) (roots h.job)) (inside : k < length kept) (at : r ≡ get_or kept k r) where
    pub root_is_bounded : IsJob job → IsBounded job r
    root_is_bounded fine = record {
      partial = root_is_partial job fine k r.partial (subst (λ (j : Job). slice_get (roots j) k ≡ Some r.partial) (sym own_job) (kept_at h.job kept k r are inside at));
      bound = subst (λ (j : Job). r.bound ≡ bound j r.partial) (sym own_job) (subst (λ (b : Bounded). b.bound ≡ bound h.job b.partial) (sym (kept_is h.job kept k r are inside at)) refl);
    }

    pub claims_root : (pushed : List Bounded) → h.stack ≡ [] → pushed ≡ items ++ r ∷ []
        → (claims : List ℕ) → as_worker (claimed (as_worker claims h) k (slice_get (roots h.job) k)).claims (in_hand job pushed seen top) ≡ claimed (as_worker claims h) k (slice_get (roots h.job) k)
    claims_root pushed idle is claims =
        let stack : reverse (partials_of pushed) ≡ r.partial ∷ [] = turned pushed items r is ∙ ap (λ (st : List (List ℕ)). r.partial ∷ st) (stack_is ∙ idle) in
        let numbers : seen ≡ h.seen = ap (λ (x : Hand). x.seen) view in
        let tops : top ≡ h.top = ap (λ (x : Hand). x.top) view in
        subst (λ o. as_worker (claimed (as_worker claims h) k o).claims (in_hand job pushed seen top) ≡ claimed (as_worker claims h) k o) (sym (kept_at h.job kept k r are inside at))
        (same_worker (claims ++ k ∷ []) (reverse (partials_of pushed)) (r.partial ∷ []) seen h.seen top h.top stack numbers tops)
      where
        same_worker : (ks : List ℕ) (st su : List (List ℕ)) (f g : ℕ) (t u : List (List Link)) → st ≡ su → f ≡ g → t ≡ u → as_worker ks (record { job = job; stack = st; seen = f; top = t }) ≡ as_worker ks (record { job = job; stack = su; seen = g; top = u })
        same_worker ks st su f g t u a b c = ap₂ (λ (x : List (List ℕ)) (y : ℕ). as_worker ks (record { job = job; stack = x; seen = y; top = t })) a b ∙ ap (λ (z : List (List Link)). as_worker ks (record { job = job; stack = su; seen = g; top = z })) c

  pub claims_none : (k : ℕ) → length (map (with_bound h.job) (roots h.job)) ≤ k → (claims : List ℕ) → as_worker (claimed (as_worker claims h) k (slice_get (roots h.job) k)).claims h ≡ claimed (as_worker claims h) k (slice_get (roots h.job) k)
  claims_none k past claims =
      let none : slice_get (roots h.job) k ≡ None = get_none (roots h.job) k (omega (arith, past, length-map (roots h.job) (with_bound h.job))) in
      subst (λ o. as_worker (claimed (as_worker claims h) k o).claims h ≡ claimed (as_worker claims h) k o) (sym none) refl

  -- the top partial opened
  opens_top : (cells : List (List Cell)) (before after : List Bounded) (b : Bounded) (best : List (List Link)) → items ≡ before ++ b ∷ []
      → after ≡ before ++ reverse (map (with_bound job) (children_of job (survivors job cells b.partial) b.partial)) → best ≡ merged top (survivors job cells b.partial)
      → (claims : List ℕ) → as_worker claims (in_hand job after seen best) ≡ opened job cells (as_worker claims h)
  opens_top cells before after b best whole pushed offers claims =
      subst (λ (x : Hand). as_worker claims (in_hand job after seen best) ≡ opened job cells (as_worker claims x)) view
      (ap₂ (λ (st : List (List ℕ)) (t : List (List Link)). as_worker claims (record { job = job; stack = st; seen = seen; top = t }))
      (on_top job before after (children_of job (survivors job cells b.partial) b.partial) pushed) offers
      ∙ ap (λ st. opened job cells (as_worker claims (record { job = job; stack = st; seen = seen; top = top }))) (sym (turned items before b whole)))

  pub opens_top_of : (own : Job) → job ≡ own → (cells : List (List Cell)) (before after : List Bounded) (b : Bounded) (best : List (List Link)) → items ≡ before ++ b ∷ []
      → after ≡ before ++ reverse (map (with_bound own) (children_of own (survivors own cells b.partial) b.partial)) → best ≡ merged top (survivors own cells b.partial)
      → (claims : List ℕ) → as_worker claims (in_hand job after seen best) ≡ opened own cells (as_worker claims h)
  opens_top_of own same cells before after b best whole pushed offers claims =
      subst (λ (j : Job). as_worker claims (in_hand job after seen best) ≡ opened j cells (as_worker claims h)) same
      (opens_top cells before after b best whole
      (subst (λ (j : Job). after ≡ before ++ reverse (map (with_bound j) (children_of j (survivors j cells b.partial) b.partial))) (sym same) pushed)
      (subst (λ (j : Job). best ≡ merged top (survivors j cells b.partial)) (sym same) offers) claims)

  -- put back as it was
  pub put_back : (before after : List Bounded) (b : Bounded) (best : List (List Link)) → items ≡ before ++ b ∷ [] → after ≡ before ++ b ∷ [] → best ≡ top → in_hand job after seen best ≡ h
  put_back before after b best whole again same =
      ap₂ (λ (bs : List Bounded) (t : List (List Link)). in_hand job bs seen t) (again ∙ sym whole) same ∙ view

  -- whether some partial of the stack passes a test
  pub any_in_stack : (f : List ℕ → Bool) → list_any (λ (b : Bounded). f b.partial) items ≡ list_any f h.stack
  any_in_stack f = any_partial items ∙ (sym (any_reverse f (partials_of items)) ∙ ap (λ (st : List (List ℕ)). list_any f st) stack_is)
    where
      any_partial : (bs : List Bounded) → list_any (λ (b : Bounded). f b.partial) bs ≡ list_any f (partials_of bs)
      any_partial [] = refl
      any_partial (b ∷ bs) = ap (λ x. f b.partial || x) (any_partial bs)
