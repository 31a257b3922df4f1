-- The claimed numbers are distinct, and are all those below the next root.
use Rattle.std.proofs.Common.{◌≡◌, ◌≢◌, ℕ, zero, suc, ◌+◌, ◌<◌, ◌≤◌, true, cond, ⊎_elim, List, [], ◌∷◌, ◌++◌, length, get_or, set, All, refl, sym, ◌∙◌, ap, subst, arith, append_assoc, Option, Some, None, slice_get}
use Rattle.std.specs.Prelude.{AllPairs, Contains, flat_map, nat_lt, not, Ok, Err}
use Rattle.std.specs.List.{list_any}
use Rattle.std.proofs.lemmas.Bool.{cases_Bool, cases_lt, ltb-true, and_parts}
use Rattle.std.proofs.lemmas.List.{length-set}
use Rattle.std.proofs.lemmas.List.Elements.{All-contains, All-head, All-tail, Contains-append_left, Contains-append_right, Contains-append_cases}
use Rattle.std.proofs.lemmas.List.Kept.{AllPairs-cons}
use Rattle.geo_base.specs.declared.cells.Cell.{Cell}
use Rattle.geo_base.specs.declared.job.Job.{Job}
use Rattle.geo_base.specs.declared.event.Event.{Event}
use Rattle.geo_base.specs.declared.event.Event.TheVariants.{Claim, Look, Cut, Open, Raise}
use Rattle.stackable.specs.Partial.{roots}
use Rattle.search_core.specs.Machine.{WorkerState, State, idle_worker, first_state, worker_at, top_partial, claimed, looked, cut, opened, opened_at, worker_of, is_allowed, happens, run, is_of_root, is_done}
use Rattle.geo_base.proofs.Members.{member_here, member_there, member_cases, no_member, pairs_head, pairs_tail, all_from_members}
use Rattle.search_core.specs.Claims.{all_claims, HasClaims}

module _ {X Y : Type 0} (f : X → List Y) where
  -- another member that gives the same list
  same_flat : (xs : List X) (i : ℕ) (v d : X) → f v ≡ f (get_or xs i d) → flat_map f (set xs i v) ≡ flat_map f xs
  same_flat [] i v d e = refl
  same_flat (x ∷ xs) zero v d e = ap (λ ys. ys ++ flat_map f xs) e
  same_flat (x ∷ xs) (suc i) v d e = ap (λ ys. f x ++ ys) (same_flat xs i v d e)

  -- another member that gives one more
  grown : (xs : List X) (i : ℕ) (v d : X) (y : Y) → i < length xs → f v ≡ f (get_or xs i d) ++ y ∷ [] → (a : List Y) × (b : List Y) × (flat_map f xs ≡ a ++ b) × (flat_map f (set xs i v) ≡ a ++ y ∷ b)
  grown [] i v d y l e = absurd (omega (arith, l))
  grown (x ∷ xs) zero v d y l e = (f x, flat_map f xs, refl, ap (λ ys. ys ++ flat_map f xs) e ∙ append_assoc (f x) (y ∷ []) (flat_map f xs))
  grown (x ∷ xs) (suc i) v d y l e =
      let r = grown xs i v d y (omega (arith, l)) e in
      (f x ++ r.0, r.1, ap (λ ys. f x ++ ys) r.2 ∙ sym (append_assoc (f x) r.0 r.1), ap (λ ys. f x ++ ys) r.3 ∙ sym (append_assoc (f x) r.0 (y ∷ r.1)))

-- one more in the middle
pairs_more : {X : Type 0} (R : X → X → Type 0) (a b : List X) (y : X) → AllPairs R (a ++ b) → ((x : X) → Contains a x → R x y) → ((x : X) → Contains b x → R y x) → AllPairs R (a ++ y ∷ b)
pairs_more R [] b y h l r = AllPairs-cons R y b (all_from_members (R y) b r) h
pairs_more R (x ∷ a) b y h l r =
    AllPairs-cons R x (a ++ y ∷ b)
    (all_from_members (R x) (a ++ y ∷ b) (λ z m.
    ⊎_elim
    (λ early. All-contains (R x) (a ++ b) z (pairs_head R x (a ++ b) h) (Contains-append_left a b z early))
    (λ t. ⊎_elim
    (λ e. subst (R x) e (l x (member_here x a)))
    (λ late. All-contains (R x) (a ++ b) z (pairs_head R x (a ++ b) h) (Contains-append_right a b z late))
    (member_cases y z b t))
    (Contains-append_cases a (y ∷ b) z m)))
    (pairs_more R a b y (pairs_tail R x (a ++ b) h) (λ z m. l z (member_there x z a m)) r)

pub got_some : {X : Type 0} (xs : List X) (k : ℕ) (x : X) → slice_get xs k ≡ Some x → k < length xs
got_some [] k x e = absurd (cc e)
got_some (y ∷ ys) zero x e = omega arith
got_some (y ∷ ys) (suc k) x e = let r = got_some ys k x e in omega (arith, r)

pub got_none : {X : Type 0} (xs : List X) (k : ℕ) → slice_get xs k ≡ None → length xs ≤ k
got_none [] k e = omega arith
got_none (y ∷ ys) zero e = absurd (cc e)
got_none (y ∷ ys) (suc k) e = let r = got_none ys k e in omega (arith, r)

module _ (job : Job) (cells : List (List Cell)) where
  -- a worker of the same claims in the place of another
  same_claims : (s : State) (w : ℕ) (v : WorkerState) (n f : ℕ) → n ≡ s.next → v.claims ≡ (worker_at s w).claims → HasClaims job s → HasClaims job (record { next = n; floor = f; workers = set s.workers w v })
  same_claims s w v n f e same has =
      let is : flat_map (λ (x : WorkerState). x.claims) (set s.workers w v) ≡ all_claims s = same_flat (λ (x : WorkerState). x.claims) s.workers w v idle_worker same in
      record {
        distinct = subst (λ ks. AllPairs (λ j k. j ≢ k) ks) (sym is) has.distinct;
        those = λ k. (
          λ h. let r = (has.those k).0 (subst (λ ks. Contains ks k) is h) in (omega (arith, r.0, e), r.1),
          λ h. subst (λ ks. Contains ks k) (sym is) ((has.those k).1 (omega (arith, h.0, e), h.1)),
        );
      }

  -- the number after the last joins the claims
  one_more : (s : State) (w : ℕ) (v : WorkerState) → w < length s.workers → s.next < length (roots job) → v.claims ≡ (worker_at s w).claims ++ s.next ∷ [] → HasClaims job s → HasClaims job (record { next = s.next + 1; floor = s.floor; workers = set s.workers w v })
  one_more s w v inside left more has =
      let r = grown (λ (x : WorkerState). x.claims) s.workers w v idle_worker s.next inside more in
      let old : (k : ℕ) → Contains (r.0 ++ r.1) k → k < s.next = λ k h. ((has.those k).0 (subst (λ ks. Contains ks k) (sym r.2) h)).0 in
      record {
        distinct = subst (λ ks. AllPairs (λ j k. j ≢ k) ks) (sym r.3)
            (pairs_more (λ j k. j ≢ k) r.0 r.1 s.next (subst (λ ks. AllPairs (λ j k. j ≢ k) ks) r.2 has.distinct)
            (λ x h e. omega (arith, old x (Contains-append_left r.0 r.1 x h), e))
            (λ x h e. omega (arith, old x (Contains-append_right r.0 r.1 x h), e)));
        those = λ k. (
          λ h. ⊎_elim
              (λ early. let t = (has.those k).0 (subst (λ ks. Contains ks k) (sym r.2) (Contains-append_left r.0 r.1 k early)) in (omega (arith, t.0), t.1))
              (λ t. ⊎_elim
              (λ e. (omega (arith, e), omega (arith, e, left)))
              (λ late. let u = (has.those k).0 (subst (λ ks. Contains ks k) (sym r.2) (Contains-append_right r.0 r.1 k late)) in (omega (arith, u.0), u.1))
              (member_cases s.next k r.1 t))
              (Contains-append_cases r.0 (s.next ∷ r.1) k (subst (λ ks. Contains ks k) r.3 h)),
          λ h. subst (λ ks. Contains ks k) (sym r.3)
              (⊎_elim
              (λ less. ⊎_elim
              (λ early. Contains-append_left r.0 (s.next ∷ r.1) k early)
              (λ late. Contains-append_right r.0 (s.next ∷ r.1) k (member_there s.next k r.1 late))
              (Contains-append_cases r.0 r.1 k (subst (λ ks. Contains ks k) r.2 ((has.those k).1 (less, h.1)))))
              (λ no_less. let e : s.next ≡ k = omega (arith, no_less, h.0) in
              Contains-append_right r.0 (s.next ∷ r.1) k (subst (λ z. Contains (s.next ∷ r.1) z) e (member_here s.next r.1)))
              (cases_lt k s.next)),
        );
      }

  opened_same : (w : WorkerState) (o : Option (List ℕ)) → (opened_at job cells w o).claims ≡ w.claims
  opened_same w None = refl
  opened_same w (Some p) = refl

  -- each event keeps the claims distinct, and those below the next root
  pub claims_kept : (s : State) (e : Event) → worker_of e < length s.workers → is_allowed job s e ≡ true → HasClaims job s → HasClaims job (happens job cells s e)
  claims_kept s (Claim w) inside may has = by_root (slice_get (roots job) s.next) refl
    where
      by_root : (o : Option (List ℕ)) → slice_get (roots job) s.next ≡ o → HasClaims job (record { next = s.next + 1; floor = s.floor; workers = set s.workers w (claimed (worker_at s w) s.next o) })
      by_root None e =
          let past : length (roots job) ≤ s.next = got_none (roots job) s.next e in
          let same : HasClaims job (record { next = s.next; floor = s.floor; workers = set s.workers w (worker_at s w) }) = same_claims s w (worker_at s w) s.next s.floor refl refl has in
          record {
            distinct = same.distinct;
            those = λ k. (
              λ h. let r = (same.those k).0 h in (omega (arith, r.0), r.1),
              λ h. (same.those k).1 (omega (arith, h.1, past), h.1),
            );
          }
      by_root (Some r) e = one_more s w (claimed (worker_at s w) s.next (Some r)) inside (got_some (roots job) s.next r e) refl has
  claims_kept s (Look w) inside may has = same_claims s w (looked (worker_at s w) s.floor) s.next s.floor refl refl has
  claims_kept s (Cut w) inside may has = same_claims s w (cut (worker_at s w)) s.next s.floor refl refl has
  claims_kept s (Open w) inside may has = same_claims s w (opened job cells (worker_at s w)) s.next s.floor refl (opened_same (worker_at s w) (top_partial (worker_at s w).stack)) has
  claims_kept s (Raise w) inside may has = record { distinct = has.distinct; those = has.those }

  pub workers_stay : (s : State) (e : Event) → length (happens job cells s e).workers ≡ length s.workers
  workers_stay s (Claim w) = length-set s.workers w (claimed (worker_at s w) s.next (slice_get (roots job) s.next))
  workers_stay s (Look w) = length-set s.workers w (looked (worker_at s w) s.floor)
  workers_stay s (Cut w) = length-set s.workers w (cut (worker_at s w))
  workers_stay s (Open w) = length-set s.workers w (opened job cells (worker_at s w))
  workers_stay s (Raise w) = refl

  -- a run of events keeps them
  pub claims_run : (events : List Event) (place : ℕ) (s t : State) → All (λ e. worker_of e < length s.workers) events → run job cells place events s ≡ Ok t → HasClaims job s → HasClaims job t
  claims_run [] place s t inside is has = let same : s ≡ t = cc is in subst (HasClaims job) same has
  claims_run (e ∷ events) place s t inside is has =
      ⊎_elim
      (λ may. claims_run events (place + 1) (happens job cells s e) t
      (λ k d l. omega (arith, All-tail (λ x. worker_of x < length s.workers) e events inside k d l, workers_stay s e))
      (subst (λ b. cond b (run job cells (place + 1) events (happens job cells s e)) (Err place) ≡ Ok t) may is)
      (claims_kept s e (All-head (λ x. worker_of x < length s.workers) e events inside) may has))
      (λ may_not. let bad : Err place ≡ Ok t = subst (λ b. cond b (run job cells (place + 1) events (happens job cells s e)) (Err place) ≡ Ok t) may_not is in absurd (cc bad))
      (cases_Bool (is_allowed job s e))

pub first_claims : (job : Job) → HasClaims job first_state
first_claims job = record {
  distinct = λ i j d l m. absurd (omega (arith, m));
  those = λ k. (λ h. absurd (no_member k h), λ h. absurd (omega (arith, h.0)));
}

-- once every root is done, the claimed numbers are those of the roots
pub claims_of_done : (job : Job) (s : State) → HasClaims job s → ((k : ℕ) → k < length (roots job) → is_done job s k ≡ true) → (k : ℕ) → (Contains (all_claims s) k → k < length (roots job)) × (k < length (roots job) → Contains (all_claims s) k)
claims_of_done job s has done k = (
  λ h. ((has.those k).0 h).1,
  λ l. (has.those k).1 (ltb-true k s.next (and_parts (nat_lt k s.next) (not (list_any (λ w. list_any (is_of_root (slice_get (roots job) k)) w.stack) s.workers)) (done k l)).0, l),
)
