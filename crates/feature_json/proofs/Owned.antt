-- The texts in languages of their own, among members that rise by their names.
use denote.Ref.{Bor}
use Rattle.std.proofs.Common.{◌≡◌, ℕ, List, [], ◌∷◌, map, Bool, true, false, cond, Ordering, Less, Equal, Greater, nat_cmp, is_eq, refl, sym, ap, ◌∙◌}
use Rattle.std.proofs.lemmas.Slice.Eq.{bytes_eq-Decides}
use Rattle.std.proofs.lemmas.Map.Text.{is_eq-slice_cmp}
use Rattle.std.proofs.lemmas.Cmp.{nat_list_cmp_total}
use Rattle.std.specs.Cmp.Lexicographic.{slice_cmp}
use Rattle.std.specs.Ordering.{match_ordering, ordering_reverse}
use Rattle.serde_json.specs.Data.{Data, Members, no_members, member, put}
use Rattle.feature_json.specs.Shape.{Shape, shape, shape_of}
use Rattle.std.specs.BTreeMap.{insert_entry}
use Rattle.feature_json.specs.Own.{is_own_name, own_members, own_entry, put_own}
use Rattle.feature_json.specs.Reading.{Above, Rising}
use Rattle.feature_json.specs.declared.seen.Seen.{Seen}

-- ---- members rise

above_trans : (k l : List ℕ) (ms : Members) → slice_cmp nat_cmp k l ≡ Less → Above l ms → Above k ms
above_trans k l no_members e h = tt
above_trans k l (member m d ms) e h = (nat_list_cmp_total.trans k l m e h.0, above_trans k l ms e h.1)

above_at : (o : Ordering) (a k l : List ℕ) (d e : Data) (ms : Members) → slice_cmp nat_cmp a k ≡ Less → Above a (member l e ms) → Above a (put k d ms)
    → Above a (match_ordering o (member k d (member l e ms)) (member l d ms) (member l e (put k d ms)))
above_at Less a k l d e ms less h later = (less, h)
above_at Equal a k l d e ms less h later = h
above_at Greater a k l d e ms less h later = (h.0, later)

above_put : (a k : List ℕ) (d : Data) (ms : Members) → slice_cmp nat_cmp a k ≡ Less → Above a ms → Above a (put k d ms)
above_put a k d no_members less h = (less, tt)
above_put a k d (member l e ms) less h = above_at _ a k l d e ms less h (above_put a k d ms less h.1)

rising_at : (o : Ordering) (k l : List ℕ) (d e : Data) (ms : Members) → slice_cmp nat_cmp k l ≡ o → Rising (member l e ms) → Rising (put k d ms)
    → Rising (match_ordering o (member k d (member l e ms)) (member l d ms) (member l e (put k d ms)))
rising_at Less k l d e ms is h later = ((is, above_trans k l ms is h.0), h)
rising_at Equal k l d e ms is h later = h
rising_at Greater k l d e ms is h later = (above_put l k d ms (nat_list_cmp_total.antisymm l k ∙ ap ordering_reverse is) h.0, later)

pub Rising-put : (k : List ℕ) (d : Data) (ms : Members) → Rising ms → Rising (put k d ms)
Rising-put k d no_members h = (tt, tt)
Rising-put k d (member l e ms) h = rising_at _ k l d e ms refl h (Rising-put k d ms h.1)

-- ---- a name that goes first

first_at : (b : Bool) (k l : List ℕ) (s : Shape) (e : Data) (ms : Members) → slice_cmp nat_cmp k l ≡ Less → put_own k s (own_members ms) ≡ (k, s) ∷ own_members ms
    → put_own k s (cond b ((l, shape e) ∷ own_members ms) (own_members ms)) ≡ (k, s) ∷ cond b ((l, shape e) ∷ own_members ms) (own_members ms)
first_at true k l s e ms is later = rw is
first_at false k l s e ms is later = later

first_own : (k : List ℕ) (s : Shape) (ms : Members) → Above k ms → put_own k s (own_members ms) ≡ (k, s) ∷ own_members ms
first_own k s no_members h = refl
first_own k s (member l e ms) h = first_at (is_own_name l) k l s e ms h.0 (first_own k s ms h.1)

-- ---- a name of a text in a language

later_at : (b : Bool) (k l : List ℕ) (d e : Data) (ms more : Members) → slice_cmp nat_cmp k l ≡ Greater → own_members more ≡ put_own k (shape d) (own_members ms)
    → cond b ((l, shape e) ∷ own_members more) (own_members more) ≡ put_own k (shape d) (cond b ((l, shape e) ∷ own_members ms) (own_members ms))
later_at true k l d e ms more is later = rw is (ap (λ os. (l, shape e) ∷ os) later)
later_at false k l d e ms more is later = later

same_at : (k l : List ℕ) (d e : Data) (ms : Members) → slice_cmp nat_cmp k l ≡ Equal → is_own_name l ≡ true → own_members (member l d ms) ≡ put_own k (shape d) (own_members (member l e ms))
same_at k l d e ms is own = rw own (rw is refl)

own_put_at : (o : Ordering) (k l : List ℕ) (d e : Data) (ms : Members) → slice_cmp nat_cmp k l ≡ o → is_own_name k ≡ true → Rising (member l e ms)
    → own_members (put k d ms) ≡ put_own k (shape d) (own_members ms)
    → own_members (match_ordering o (member k d (member l e ms)) (member l d ms) (member l e (put k d ms))) ≡ put_own k (shape d) (own_members (member l e ms))
own_put_at Less k l d e ms is own h later = ap (λ b. cond b ((k, shape d) ∷ own_members (member l e ms)) (own_members (member l e ms))) own ∙ sym (first_own k (shape d) (member l e ms) (is, above_trans k l ms is h.0))
own_put_at Equal k l d e ms is own h later =
    let same_name : k ≡ l = (bytes_eq-Decides k l).0 (sym (is_eq-slice_cmp k l) ∙ ap is_eq is) in
    same_at k l d e ms is (ap is_own_name (sym same_name) ∙ own)
own_put_at Greater k l d e ms is own h later = later_at (is_own_name l) k l d e ms (put k d ms) is later

pub own_members-put : (k : List ℕ) (d : Data) (ms : Members) → is_own_name k ≡ true → Rising ms → own_members (put k d ms) ≡ put_own k (shape d) (own_members ms)
own_members-put k d no_members own h = ap (λ b. cond b ((k, shape d) ∷ []) []) own
own_members-put k d (member l e ms) own h = own_put_at _ k l d e ms refl own h (own_members-put k d ms own h.1)

-- ---- another name

other_at : (o : Ordering) (k l : List ℕ) (d e : Data) (ms : Members) → slice_cmp nat_cmp k l ≡ o → is_own_name k ≡ false → own_members (put k d ms) ≡ own_members ms
    → own_members (match_ordering o (member k d (member l e ms)) (member l d ms) (member l e (put k d ms))) ≡ own_members (member l e ms)
other_at Less k l d e ms is other later = ap (λ b. cond b ((k, shape d) ∷ own_members (member l e ms)) (own_members (member l e ms))) other
other_at Equal k l d e ms is other later =
    let same_name : k ≡ l = (bytes_eq-Decides k l).0 (sym (is_eq-slice_cmp k l) ∙ ap is_eq is) in
    let not_own : is_own_name l ≡ false = ap is_own_name (sym same_name) ∙ other in
    ap (λ b. cond b ((l, shape d) ∷ own_members ms) (own_members ms)) not_own ∙ sym (ap (λ b. cond b ((l, shape e) ∷ own_members ms) (own_members ms)) not_own)
other_at Greater k l d e ms is other later = ap (λ os. cond (is_own_name l) ((l, shape e) ∷ os) os) later

pub own_members-put_other : (k : List ℕ) (d : Data) (ms : Members) → is_own_name k ≡ false → own_members (put k d ms) ≡ own_members ms
own_members-put_other k d no_members other = ap (λ b. cond b ((k, shape d) ∷ []) []) other
own_members-put_other k d (member l e ms) other = other_at _ k l d e ms refl other (own_members-put_other k d ms other)

-- ---- the map that holds them

-- an insertion puts what is seen at its place
pub entries_put : (name : Bor (List ℕ)) (seen : Seen) (es : List (Bor (List ℕ) × Seen))
    → map own_entry (insert_entry (λ a b. slice_cmp nat_cmp a.now b.now) es name seen) ≡ put_own name.now (shape_of seen) (map own_entry es)
entries_put name seen [] = refl
entries_put name seen (e ∷ es) =
    elim (slice_cmp nat_cmp name.now e.0.now) as (λ o. map own_entry (match_ordering o ((name, seen) ∷ e ∷ es) ((e.0, seen) ∷ es) (e ∷ insert_entry (λ a b. slice_cmp nat_cmp a.now b.now) es name seen)) ≡ match_ordering o ((name.now, shape_of seen) ∷ map own_entry (e ∷ es)) ((e.0.now, shape_of seen) ∷ map own_entry es) (own_entry e ∷ put_own name.now (shape_of seen) (map own_entry es))) [
      | Less ↦ refl
      | Equal ↦ refl
      | Greater ↦ ap (λ l. own_entry e ∷ l) (entries_put name seen es)
    ]
