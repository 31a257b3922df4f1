-- The floor of a worker's list is sound.
use Rattle.std.proofs.Common.{◌≡◌, ℕ, zero, suc, ◌<◌, ◌≤◌, ◌⊎◌, inl, inr, ⊎_elim, List, [], ◌∷◌, length, get_or, refl, sym, ◌∙◌, ap, subst, arith, Ordering, Less, Equal, Greater, nat_cmp, Option, Some, None, slice_get}
use Rattle.std.specs.Ordering.{ordering_then}
use Rattle.std.proofs.lemmas.Cmp.{ranked}
use Rattle.std.proofs.lemmas.Bool.{cases_lt}
use Rattle.std.proofs.lemmas.List.{get_or_default}
use Rattle.geo_base.specs.declared.link.Link.{Link}
use Rattle.geo_base.specs.declared.cells.Cell.{Cell}
use Rattle.geo_base.specs.declared.job.Job.{Job}
use Rattle.geo_base.specs.Order.{key_of, target_layer, target_id, links_cmp, IsBefore}
use Rattle.geo_base.specs.Job.{IsSound}
use Rattle.top_list.specs.Merged.{entry_key, floor_of}
use Rattle.search_core.specs.Covers.{IsTop}

first_less : (o p : Ordering) → ordering_then o p ≡ Less → (o ≡ Less) ⊎ (o ≡ Equal)
first_less Less p e = inl refl
first_less Equal p e = inr refl
first_less Greater p e = absurd (cc e)

-- what comes before has no smaller key
pub key_falls : (a b : List Link) → IsBefore a b → key_of b ≤ key_of a
key_falls a b before =
    ⊎_elim
    (λ less. let h : key_of b < key_of a = ranked (key_of b) (key_of a) Less (sym less) in omega (arith, h))
    (λ tie. let h : key_of b ≡ key_of a = ranked (key_of b) (key_of a) Equal (sym tie) in omega (arith, h))
    (first_less (nat_cmp (key_of b) (key_of a)) (ordering_then (nat_cmp (target_layer a) (target_layer b)) (ordering_then (nat_cmp (target_id a) (target_id b)) (ordering_then (nat_cmp (length a) (length b)) (links_cmp a b)))) before)

got : {X : Type 0} (xs : List X) (k : ℕ) (x : X) → slice_get xs k ≡ Some x → (k < length xs) × (get_or xs k x ≡ x)
got [] k x e = absurd (cc e)
got (y ∷ ys) zero x e = (omega arith, cc e)
got (y ∷ ys) (suc k) x e = let r = got ys k x e in (omega (arith, r.0), r.1)

-- a greater key comes before
pub before_by_key : (a b : List Link) → key_of b < key_of a → IsBefore a b
before_by_key a b h = by_first (nat_cmp (key_of b) (key_of a)) _ (less_is (nat_cmp (key_of b) (key_of a)) refl)
  where
    less_is : (o : Ordering) → o ≡ nat_cmp (key_of b) (key_of a) → o ≡ Less
    less_is Less e = refl
    less_is Equal e = let g : key_of b ≡ key_of a = ranked (key_of b) (key_of a) Equal e in absurd (omega (arith, g, h))
    less_is Greater e = let g : key_of a < key_of b = ranked (key_of b) (key_of a) Greater e in absurd (omega (arith, g, h))

    by_first : (o p : Ordering) → o ≡ Less → ordering_then o p ≡ Less
    by_first o p e = rw e refl

pub floor_of_is_sound : (job : Job) (cells : List (List Cell)) (top : List (List Link)) → IsTop job cells top → IsSound job cells (floor_of top)
floor_of_is_sound job cells top is = by_entry (slice_get top 39) refl
  where
    by_entry : (o : Option (List Link)) → slice_get top 39 ≡ o → IsSound job cells (entry_key o)
    by_entry None e = inl refl
    by_entry (Some c) e =
        let at = got top 39 c e in
        inr (record {
          some = top;
          forty = omega (arith, at.0, is.few);
          contexts = is.contexts;
          high = λ k d l.
              ⊎_elim
              (λ early. key_falls (get_or top k d) c (subst (λ z. IsBefore (get_or top k d) z) (get_or_default top 39 d c at.0 ∙ at.1) (is.in_order k 39 d early at.0)))
              (λ last. let here : k ≡ 39 = omega (arith, last, l, is.few) in
              subst (λ z. key_of c ≤ key_of z) (sym (ap (λ n. get_or top n d) here ∙ (get_or_default top 39 d c at.0 ∙ at.1))) (omega arith))
              (cases_lt k 39);
          one_each = is.one_each;
        })
