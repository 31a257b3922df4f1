-- The rows and the number of features, where a feature is put, changed or removed.
use Rattle.std.proofs.Common.{◌≡◌, ◌∙◌, ◌+◌, ◌-◌, ◌<◌, ◌≤◌, ℕ, Bool, true, false, cond, not, [], ◌∷◌, map, length, refl, sym, ap, subst, arith, None, Some, is_some, Result, Ok, Err}
use Rattle.std.specs.List.{sum_by, All, AllByRecursion}
use Rattle.std.specs.Option.{unwrap_or, option_map}
use Rattle.std.specs.Ordering.{is_eq}
use Rattle.std.specs.declared.cmp.Ordering.TheVariants.{Less, Equal, Greater}
use Rattle.std.specs.List.Sorted.{IsStrictlySortedBy}
use Rattle.std.specs.Map.{keys_of, values_of, lookup, remove_entry}
use Rattle.std.specs.BTreeMap as tree
use Rattle.std.proofs.lemmas.Bool.{lt-ltb, le-ltb, le-leb, lt-leb}
use Rattle.std.proofs.lemmas.List.{length-map}
use Rattle.std.proofs.lemmas.List.Elements.{All-from_recursion}
use Rattle.std.proofs.lemmas.List.Sums.{sum_by-cons}
use Rattle.std.proofs.lemmas.Map.Entries.{sum_by-remove_entry}
use Rattle.std.proofs.lemmas.Map.Keys.{sorted_head, sorted_tail}
use Rattle.feature_reader.specs.FeatureView.{FeatureView}
use Rattle.feature_reader.specs.declared.table.Place.{Place}
use Rattle.feature_reader.specs.declared.taker.PutFault.{PutFault}
use Rattle.feature_reader.specs.declared.taker.Taken.{Taken}
use Rattle.feature_reader.specs.declared.taker.PutFault.TheVariants.{TooManyRows}
use Rattle.feature_reader.specs.declared.taker.Taken.TheVariants.{New, Changed}
use Rattle.feature_reader.specs.Table.{Table, entry_of, is_at, comes_before, without, inserted, with_feature, stands, rows_of, rows, most_features, most_rows, is_one_too_many, put_answer, IsWithinLimits}
use Rattle.feature_reader.proofs.Tables.{Entries, AtIds, place_cmp, told_as, later_same, none_left_out, stands_is}

rows-cons : (e : ℕ × FeatureView) (t : Table) → rows (e ∷ t) ≡ rows_of e.1 + rows t
rows-cons e t = sum_by-cons (λ entry. rows_of entry.1) e t

-- a feature that is put in brings its rows
pub rows-inserted : (layer : ℕ) (f : FeatureView) (t : Table) → rows (inserted layer f t) ≡ rows_of f + rows t
rows-inserted layer f [] = rows-cons (layer, f) []
rows-inserted layer f (e ∷ t) = by (rows-inserted layer f t) (comes_before layer f.id e)
  where
    by : rows (inserted layer f t) ≡ rows_of f + rows t → (b : Bool) → rows (cond b ((layer, f) ∷ e ∷ t) (e ∷ inserted layer f t)) ≡ rows_of f + rows (e ∷ t)
    by more true = rows-cons (layer, f) (e ∷ t)
    by more false = omega (arith, rows-cons e (inserted layer f t), more, rows-cons e t)

-- and is one more
pub length-inserted : (layer : ℕ) (f : FeatureView) (t : Table) → length (inserted layer f t) ≡ 1 + length t
length-inserted layer f [] = refl
length-inserted layer f (e ∷ t) = by (length-inserted layer f t) (comes_before layer f.id e)
  where
    by : length (inserted layer f t) ≡ 1 + length t → (b : Bool) → length (cond b ((layer, f) ∷ e ∷ t) (e ∷ inserted layer f t)) ≡ 1 + length (e ∷ t)
    by more true = omega arith
    by more false = omega (arith, more)

-- what a map's removal leaves is the table without the feature
pub remove_is : (k : Place) (es : Entries) → AtIds es → IsStrictlySortedBy place_cmp (keys_of es) → map entry_of (remove_entry (tree.is_at (place_cmp k)) es) ≡ without (map entry_of es) k.layer k.id
remove_is k [] ids sorted = refl
remove_is k (e ∷ es) ids sorted =
    let left = remove_is k es ids.1 (sorted_tail place_cmp e.0 (keys_of es) sorted) in
    elim (place_cmp k e.0) as (λ o. place_cmp k e.0 ≡ o → map entry_of (cond (is_eq o) es (e ∷ remove_entry (tree.is_at (place_cmp k)) es)) ≡ without (map entry_of (e ∷ es)) k.layer k.id) [
      | Less ↦ λ is. kept left (told_as k e Less ids.0 is).1
      | Equal ↦ λ is. sym (ap (λ b. cond (not b) (entry_of e ∷ rest) rest) (told_as k e Equal ids.0 is).1 ∙ none_left_out k es ids.1 (later_same k e.0 (keys_of es) is after))
      | Greater ↦ λ is. kept left (told_as k e Greater ids.0 is).1
    ] refl
  where
    rest : Table
    rest = without (map entry_of es) k.layer k.id

    after : AllByRecursion (λ y. place_cmp e.0 y ≡ Less) (keys_of es)
    after = sorted_head place_cmp e.0 (keys_of es) sorted

    kept : map entry_of (remove_entry (tree.is_at (place_cmp k)) es) ≡ rest → is_at k.layer k.id (entry_of e) ≡ false → entry_of e ∷ map entry_of (remove_entry (tree.is_at (place_cmp k)) es) ≡ without (map entry_of (e ∷ es)) k.layer k.id
    kept left isnt = ap (λ l. entry_of e ∷ l) left ∙ sym (ap (λ b. cond (not b) (entry_of e ∷ rest) rest) isnt)

-- after a removal too each feature stands at the place of its id
pub at_ids_remove : (test : Place → Bool) (es : Entries) → AtIds es → AtIds (remove_entry test es)
at_ids_remove test [] ids = tt
at_ids_remove test (e ∷ es) ids = by (at_ids_remove test es ids.1) (test e.0)
  where
    by : AtIds (remove_entry test es) → (b : Bool) → AtIds (cond b es (e ∷ remove_entry test es))
    by more true = ids.1
    by more false = (ids.0, more)

rows-values : (es : Entries) → rows (map entry_of es) ≡ sum_by rows_of (values_of es)
rows-values [] = refl
rows-values (e ∷ es) = omega (arith, rows-cons (entry_of e) (map entry_of es), sum_by-cons rows_of e.1 (values_of es), rows-values es)

-- the rows of what a map's look-up finds, 0 where it finds nothing
abbrev pub rows_at : Place → Entries → ℕ
rows_at k es = unwrap_or (option_map rows_of (lookup (tree.is_at (place_cmp k)) es)) 0

-- the features of the table are those without the feature, and the one that a look-up finds
pub rows_without : (k : Place) (es : Entries) → AtIds es → IsStrictlySortedBy place_cmp (keys_of es) → rows (without (map entry_of es) k.layer k.id) + rows_at k es ≡ rows (map entry_of es)
rows_without k es ids sorted =
    let test = tree.is_at (place_cmp k) in
    ap (λ n. n + rows_at k es) (sym (ap rows (remove_is k es ids sorted)) ∙ rows-values (remove_entry test es)) ∙ sum_by-remove_entry rows_of test es ∙ sym (rows-values es)

pub rows_found : (k : Place) (es : Entries) (g : FeatureView) → AtIds es → IsStrictlySortedBy place_cmp (keys_of es) → lookup (tree.is_at (place_cmp k)) es ≡ Some g → rows (without (map entry_of es) k.layer k.id) + rows_of g ≡ rows (map entry_of es)
rows_found k es g ids sorted found = ap (λ o. rows (without (map entry_of es) k.layer k.id) + unwrap_or (option_map rows_of o) 0) (sym found) ∙ rows_without k es ids sorted

pub rows_absent : (k : Place) (es : Entries) → AtIds es → IsStrictlySortedBy place_cmp (keys_of es) → lookup (tree.is_at (place_cmp k)) es ≡ None → rows (without (map entry_of es) k.layer k.id) + 0 ≡ rows (map entry_of es)
rows_absent k es ids sorted none = ap (λ o. rows (without (map entry_of es) k.layer k.id) + unwrap_or (option_map rows_of o) 0) (sym none) ∙ rows_without k es ids sorted

-- 1 for true
abbrev pub number : Bool → ℕ
number b = cond b 1 0

length-remove_entry : (test : Place → Bool) (es : Entries) → length (remove_entry test es) + number (is_some (lookup test es)) ≡ length es
length-remove_entry test [] = refl
length-remove_entry test (e ∷ es) = by (length-remove_entry test es) (test e.0)
  where
    by : length (remove_entry test es) + number (is_some (lookup test es)) ≡ length es → (b : Bool) → length (cond b es (e ∷ remove_entry test es)) + number (is_some (cond b (Some e.1) (lookup test es))) ≡ length (e ∷ es)
    by more true = omega arith
    by more false = omega (arith, more)

pub length_without : (k : Place) (es : Entries) → AtIds es → IsStrictlySortedBy place_cmp (keys_of es) → length (without (map entry_of es) k.layer k.id) + number (stands (map entry_of es) k.layer k.id) ≡ length (map entry_of es)
length_without k es ids sorted =
    let test = tree.is_at (place_cmp k) in
    ap (λ n. n + number (stands (map entry_of es) k.layer k.id)) (ap length (sym (remove_is k es ids sorted)) ∙ length-map (remove_entry test es) entry_of)
    ∙ ap (λ b. length (remove_entry test es) + number b) (stands_is k es ids)
    ∙ length-remove_entry test es ∙ sym (length-map es entry_of)

-- ---- what a put answers

-- where nothing is found and the table is full, a new feature would be one too many
pub one_too_many : (k : Place) (es : Entries) → AtIds es → lookup (tree.is_at (place_cmp k)) es ≡ None → most_features ≤ length (map entry_of es) → is_one_too_many (map entry_of es) k.layer k.id ≡ true
one_too_many k es ids none full =
    let isnt : stands (map entry_of es) k.layer k.id ≡ false = stands_is k es ids ∙ ap is_some none in
    rw (isnt, le-leb most_features (length (map entry_of es)) full) refl

-- where a feature is found, or the table isn't full, it wouldn't
pub found_one : (k : Place) (es : Entries) (g : FeatureView) → AtIds es → lookup (tree.is_at (place_cmp k)) es ≡ Some g → is_one_too_many (map entry_of es) k.layer k.id ≡ false
found_one k es g ids found =
    let is : stands (map entry_of es) k.layer k.id ≡ true = stands_is k es ids ∙ ap is_some found in
    rw is refl

pub has_place : (k : Place) (es : Entries) → AtIds es → lookup (tree.is_at (place_cmp k)) es ≡ None → length (map entry_of es) < most_features → is_one_too_many (map entry_of es) k.layer k.id ≡ false
has_place k es ids none less =
    let isnt : stands (map entry_of es) k.layer k.id ≡ false = stands_is k es ids ∙ ap is_some none in
    rw (isnt, lt-leb most_features (length (map entry_of es)) less) refl

-- then the others are fewer than the most
pub room_found : (k : Place) (es : Entries) (g : FeatureView) → AtIds es → IsStrictlySortedBy place_cmp (keys_of es) → lookup (tree.is_at (place_cmp k)) es ≡ Some g → length (map entry_of es) ≤ most_features → length (without (map entry_of es) k.layer k.id) < most_features
room_found k es g ids sorted found few =
    let one : number (stands (map entry_of es) k.layer k.id) ≡ 1 = ap number (stands_is k es ids ∙ ap is_some found) in
    omega (arith, length_without k es ids sorted, one, few)

pub room_left : (k : Place) (es : Entries) → AtIds es → IsStrictlySortedBy place_cmp (keys_of es) → length (map entry_of es) < most_features → length (without (map entry_of es) k.layer k.id) < most_features
room_left k es ids sorted less = omega (arith, length_without k es ids sorted, less)

pub too_many_rows : (table : Table) (layer : ℕ) (f : FeatureView) → is_one_too_many table layer f.id ≡ false → most_rows < rows (with_feature table layer f) → put_answer table layer f ≡ Err TooManyRows
too_many_rows table layer f isnt more = rw (isnt, lt-ltb most_rows (rows (with_feature table layer f)) more) refl

pub is_taken : (table : Table) (layer : ℕ) (f : FeatureView) → is_one_too_many table layer f.id ≡ false → rows (with_feature table layer f) ≤ most_rows → put_answer table layer f ≡ Ok (cond (stands table layer f.id) Changed New)
is_taken table layer f isnt fits = rw (isnt, le-ltb most_rows (rows (with_feature table layer f)) fits) (by (stands table layer f.id))
  where
    by : (b : Bool) → ◌≡◌ {A = Result Taken PutFault} (cond b (Ok Changed) (Ok New)) (Ok (cond b Changed New))
    by true = refl
    by false = refl

pub not_true : (b : Bool) → true ≡ not b → b ≡ false
not_true b is = grind (arith, is)

-- the rows after a put, from those before it
pub rows_after : (table : Table) (layer : ℕ) (f : FeatureView) (before count : ℕ) → rows (without table layer f.id) + before ≡ rows table → count ≡ rows table → count - before + rows_of f ≡ rows (with_feature table layer f)
rows_after table layer f before count left is = omega (arith, rows-inserted layer f (without table layer f.id), left, is)

-- ---- a removal

-- what a removal leaves
pub record Removed (k : Place) (es left : Entries) : Type 0 where
  pub ids : All (λ e. e.0.id ≡ e.1.id) left
  pub table : map entry_of left ≡ without (map entry_of es) k.layer k.id
  pub limits : IsWithinLimits (map entry_of left)

pub removed : (k : Place) (es left : Entries) → AtIds es → IsStrictlySortedBy place_cmp (keys_of es) → IsWithinLimits (map entry_of es) → left ≡ remove_entry (tree.is_at (place_cmp k)) es → Removed k es left
removed k es left ids sorted within is =
    let table : map entry_of left ≡ without (map entry_of es) k.layer k.id = ap (map entry_of) is ∙ remove_is k es ids sorted in
    record {
      ids = All-from_recursion (λ e. e.0.id ≡ e.1.id) left (subst AtIds (sym is) (at_ids_remove (tree.is_at (place_cmp k)) es ids));
      table = table;
      limits = (omega (arith, within.0, length_without k es ids sorted, ap length table), omega (arith, within.1, rows_without k es ids sorted, ap rows table));
    }
