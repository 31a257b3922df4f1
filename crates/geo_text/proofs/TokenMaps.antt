-- A token map against the entries of the map that holds it, whose keys and values are strings.
use Rattle.std.proofs.Common.{◌≡◌, ◌∙◌, ℕ, Bool, true, false, cond, List, [], ◌∷◌, map, refl, sym, ap, Option, Some, option_map, bytes_eq, String}
use Rattle.std.specs.Prelude.{string_bytes}
use Rattle.std.specs.String.{string_cmp}
use Rattle.std.specs.Ordering.{nat_cmp, is_eq, match_ordering}
use Rattle.std.specs.declared.cmp.Ordering.TheVariants.{Less, Equal, Greater}
use Rattle.std.specs.Cmp.Lexicographic.{slice_cmp}
use Rattle.std.specs.List.{AllByRecursion, AllZip}
use Rattle.std.specs.List.Sorted.{IsStrictlySortedBy}
use Rattle.std.specs.Map.{keys_of, lookup}
use Rattle.std.specs.BTreeMap.{BTreeMap, insert_entry, is_at}
use Rattle.std.specs.BTreeMap as tree
use Rattle.std.proofs.lemmas.List.Elements.{All-from_recursion, recursion_from_All}
use Rattle.std.proofs.lemmas.Map.Text.{is_eq-slice_cmp, btree_map_updates_text}
use Rattle.geo_text.specs.Tokens.{Replacements, replacement, AreWords, Rise}
use Rattle.geo_text.specs.Words.{IsWord}

-- what a map of strings holds
abbrev pub Entries : Type 0 → Type 0
Entries Y = List (String Y × String Y)

module _ {Y : Type 0} where
  -- the bytes of the keys and the values
  abbrev pub texts_of : Entries Y → Replacements
  texts_of es = map (λ e. (string_bytes e.0, string_bytes e.1)) es

  -- one entry more, where both look-ups test it alike
  one_more : (t u : Bool) (v : String Y) (r : Option (List ℕ)) (s : Option (String Y)) → u ≡ t → r ≡ option_map string_bytes s → cond t (Some (string_bytes v)) r ≡ option_map string_bytes (cond u (Some v) s)
  one_more true u v r s alike more = rw alike refl
  one_more false u v r s alike more = rw alike more

  -- the look-up by bytes is the map's
  pub replacement_is : (q : List ℕ) (es : Entries Y) → replacement (texts_of es) q ≡ option_map string_bytes (lookup (is_at (λ k. slice_cmp nat_cmp q (string_bytes k))) es)
  replacement_is q [] = refl
  replacement_is q (e ∷ es) = one_more (bytes_eq q (string_bytes e.0)) (is_eq (slice_cmp nat_cmp q (string_bytes e.0))) e.1 _ _ (is_eq-slice_cmp q (string_bytes e.0)) (replacement_is q es)

  -- the look-up after a change at one text
  changed : (t : Bool) (to : String Y) (s : Option (String Y)) → option_map string_bytes (cond t (Some to) s) ≡ cond t (Some (string_bytes to)) (option_map string_bytes s)
  changed true to s = refl
  changed false to s = refl

  -- an insertion replaces one token, and leaves the others
  pub put_is : (from : List ℕ) (to : String Y) (m n : BTreeMap (String Y) (String Y)) → tree.UpdatesBy string_cmp (λ k. slice_cmp nat_cmp from (string_bytes k)) m n (Some to)
      → (q : List ℕ) → replacement (texts_of n.entries) q ≡ cond (bytes_eq from q) (Some (string_bytes to)) (replacement (texts_of m.entries) q)
  put_is from to m n updates q =
      replacement_is q n.entries
      ∙ (ap (option_map string_bytes) (btree_map_updates_text from m n (Some to) updates q)
      ∙ (changed (bytes_eq from q) to (tree.get_by_text m q)
      ∙ ap (cond (bytes_eq from q) (Some (string_bytes to))) (sym (replacement_is q m.entries))))

  -- an insertion puts the bytes where it puts the entry
  pub entries_put : (k v : String Y) (es : Entries Y) → texts_of (insert_entry string_cmp es k v) ≡ insert_entry (slice_cmp nat_cmp) (texts_of es) (string_bytes k) (string_bytes v)
  entries_put k v [] = refl
  entries_put k v (e ∷ es) = elim (string_cmp k e.0) as (λ o. texts_of (match_ordering o ((k, v) ∷ e ∷ es) ((e.0, v) ∷ es) (e ∷ insert_entry string_cmp es k v)) ≡ match_ordering o ((string_bytes k, string_bytes v) ∷ texts_of (e ∷ es)) ((string_bytes e.0, string_bytes v) ∷ texts_of es) ((string_bytes e.0, string_bytes e.1) ∷ insert_entry (slice_cmp nat_cmp) (texts_of es) (string_bytes k) (string_bytes v))) [
    | Less ↦ refl
    | Equal ↦ refl
    | Greater ↦ ap (λ l. (string_bytes e.0, string_bytes e.1) ∷ l) (entries_put k v es)
  ]

  -- each key and each value is a word
  abbrev Words : Entries Y → Type 0
  Words es = AllByRecursion (λ r. IsWord r.0 × IsWord r.1) (texts_of es)

  words_more : (k v : String Y) (es : Entries Y) → Words es → IsWord (string_bytes k) → IsWord (string_bytes v) → Words (insert_entry string_cmp es k v)
  words_more k v [] words key value = ((key, value), tt)
  words_more k v (e ∷ es) words key value = elim (string_cmp k e.0) as (λ o. Words (match_ordering o ((k, v) ∷ e ∷ es) ((e.0, v) ∷ es) (e ∷ insert_entry string_cmp es k v))) [
    | Less ↦ ((key, value), words)
    | Equal ↦ ((words.0.0, value), words.1)
    | Greater ↦ (words.0, words_more k v es words.1 key value)
  ]

  -- an insertion of words keeps all words
  pub are_words : (k v : String Y) (es : Entries Y) → AreWords (texts_of es) → IsWord (string_bytes k) → IsWord (string_bytes v) → AreWords (texts_of (insert_entry string_cmp es k v))
  are_words k v es words key value = All-from_recursion _ _ (words_more k v es (recursion_from_All _ _ words) key value)

  -- the clone of a map has the same bytes
  pub clone_is : (es fs : Entries Y) → AllZip (λ p q. (string_bytes q.0 ≡ string_bytes p.0) × (string_bytes q.1 ≡ string_bytes p.1)) es fs → texts_of fs ≡ texts_of es
  clone_is [] [] same = refl
  clone_is [] (f ∷ fs) same = absurd same
  clone_is (e ∷ es) [] same = absurd same
  clone_is (e ∷ es) (f ∷ fs) same = rw (same.0.0, same.0.1, clone_is es fs same.1) refl

  after : (k : String Y) (es : Entries Y) → AllByRecursion (λ y. string_cmp k y ≡ Less) (keys_of es) → AllByRecursion (λ y. slice_cmp nat_cmp (string_bytes k) y ≡ Less) (keys_of (texts_of es))
  after k [] all = tt
  after k (e ∷ es) all = (all.0, after k es all.1)

  -- the tokens rise as the keys do
  pub rises : (es : Entries Y) → IsStrictlySortedBy string_cmp (keys_of es) → Rise (texts_of es)
  unfolding IsStrictlySortedBy
  rises [] sorted = tt
  rises (e ∷ es) sorted = (after e.0 es sorted.0, rises es sorted.1)
