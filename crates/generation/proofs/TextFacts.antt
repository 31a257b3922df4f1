-- The texts of a layer, feature by feature, and the same in their order, each once.
use Rattle.std.proofs.Common.{is_eq, ◌≡◌, ◌∙◌, ◌+◌, ◌<◌, ◌≤◌, ℕ, Bool, true, false, cond, List, [], ◌∷◌, ◌++◌, length, map, take, get_or, refl, sym, ap, ap₂, subst, subst₂, arith, length-append, append_assoc}
use Rattle.std.specs.Prelude.{Contains, bytes_eq}
use Rattle.std.specs.List.{dedup, dedup_from, sum_by}
use Rattle.std.specs.List.Sorted.{IsSorted, IsPermutation}
use Rattle.std.specs.Ordering.{is_lt, eq_by_cmp}
use Rattle.std.specs.declared.cmp.Ordering.{Ordering}
use Rattle.std.specs.declared.cmp.Ordering.TheVariants.{Equal}
use Rattle.std.proofs.lemmas.Cmp.{nat_list_cmp_total, nat_list_eq_equiv}
use Rattle.std.proofs.lemmas.List.{length-map, get_or-map, map-append, map_more}
use Rattle.std.proofs.lemmas.List.Sums.{sum_by-cons}
use Rattle.std.proofs.lemmas.List.Sorted.{IsPermutation-map}
use Rattle.std.proofs.lemmas.Map.Text.{is_eq-slice_cmp}
use Rattle.std.proofs.lemmas.Slice.Eq.{bytes_eq-Decides}
use Rattle.geo_base.specs.Lists.{rising}
use Rattle.geo_base.proofs.Members.{member_in_map, member_in_flat_map}
use Rattle.geo_base.proofs.RisingFacts.{dedup_is_rising, rising-all, rising-rises, pairs_rise}
use Rattle.feature_reader.specs.declared.phrase.Phrase.{Phrase}
use Rattle.feature_reader.specs.FeatureView.{FeatureView}
use Rattle.feature_reader.specs.Table.{rows_of, most_rows}
use Rattle.phrase_index.specs.Phrases.{text_cmp, Rise}
use Rattle.generation.specs.Index.{texts_of, phrases_of}

-- ---- what a list of texts that are lent shows

module _ {X Y : Type 0} (v : X → Y) where
  dedup_from-map : (same : Y → Y → Bool) (k : X) (xs : List X) → map v (dedup_from (λ a b. same (v a) (v b)) k xs) ≡ dedup_from same (v k) (map v xs)
  dedup_from-map same k [] = refl
  dedup_from-map same k (x ∷ xs) = by (same (v x) (v k)) (dedup_from-map same k xs) (dedup_from-map same x xs)
    where
      by : (b : Bool) → map v (dedup_from (λ a b. same (v a) (v b)) k xs) ≡ dedup_from same (v k) (map v xs) → map v (dedup_from (λ a b. same (v a) (v b)) x xs) ≡ dedup_from same (v x) (map v xs)
          → map v (cond b (dedup_from (λ a b. same (v a) (v b)) k xs) (k ∷ dedup_from (λ a b. same (v a) (v b)) x xs)) ≡ cond b (dedup_from same (v k) (map v xs)) (v k ∷ dedup_from same (v x) (map v xs))
      by true once more = once
      by false once more = ap (λ l. v k ∷ l) more

  dedup-map : (same : Y → Y → Bool) (xs : List X) → map v (dedup (λ a b. same (v a) (v b)) xs) ≡ dedup same (map v xs)
  dedup-map same [] = refl
  dedup-map same (x ∷ xs) = dedup_from-map same x xs

  sorted-map : (cmp : Y → Y → Ordering) (xs : List X) → IsSorted (λ a b. cmp (v a) (v b)) xs → IsSorted cmp (map v xs)
  sorted-map cmp [] up = λ k d low high. absurd (omega (arith, high))
  sorted-map cmp (x ∷ xs) up = λ k d low high.
      let within : k + 1 < length (x ∷ xs) = omega (arith, high, length-map (x ∷ xs) v) in
      let before : k < length (x ∷ xs) = omega (arith, within) in
      subst₂ (λ a b. is_lt (cmp a b) ≡ false) (sym (get_or-map v (x ∷ xs) (k + 1) x d within)) (sym (get_or-map v (x ∷ xs) k x d before)) (up k x low within)

-- ---- texts in their order

ties : (s t : List ℕ) → bytes_eq s t ≡ eq_by_cmp text_cmp s t
ties s t = sym (is_eq-slice_cmp s t)

same_is : (s t : List ℕ) → bytes_eq s t ≡ true → s ≡ t
same_is s t e = (bytes_eq-Decides s t).0 e

one_text : (s t : List ℕ) → text_cmp s t ≡ Equal → s ≡ t
one_text s t e = same_is s t (ties s t ∙ ap is_eq e)

-- texts that are lent, sorted and without repeats, are the texts in their order
pub lent_rising : {X : Type 0} (v : X → List ℕ) (xs ys : List X) → IsPermutation xs ys → IsSorted (λ a b. text_cmp (v a) (v b)) ys → map v (dedup (λ a b. bytes_eq (v a) (v b)) ys) ≡ rising text_cmp (map v xs)
lent_rising v xs ys moved up =
    dedup-map v bytes_eq ys
    ∙ dedup_is_rising nat_list_cmp_total bytes_eq ties nat_list_eq_equiv same_is (map v xs) (map v ys) (IsPermutation-map v xs ys moved) (sorted-map v text_cmp ys up)

pub texts_rise : (texts : List (List ℕ)) → Rise (rising text_cmp texts)
texts_rise texts = pairs_rise nat_list_cmp_total (rising text_cmp texts) (rising-rises nat_list_cmp_total texts)

-- a text of a feature is a phrase of the layer
pub text_there : (features : List FeatureView) (f : FeatureView) (p : Phrase) → Contains features f → Contains f.phrases p → Contains (phrases_of features) p.text
text_there features f p here among =
    rising-all nat_list_cmp_total one_text (texts_of features) p.text
    (member_in_flat_map (λ (g : FeatureView). map (λ (q : Phrase). q.text) g.phrases) features f p.text here (member_in_map (λ (q : Phrase). q.text) f.phrases p among))

-- the text of one phrase more
pub one_phrase_more : {X : Type 0} (v : X → List ℕ) (old texts more : List X) (ps : List Phrase) (i : ℕ) (d : Phrase) (t : X) → i < length ps → map v texts ≡ map v old ++ map (λ p. p.text) (take i ps) → more ≡ texts ++ t ∷ [] → v t ≡ (get_or ps i d).text
    → map v more ≡ map v old ++ map (λ p. p.text) (take (i + 1) ps)
one_phrase_more v old texts more ps i d t within so_far is text =
    let own : Phrase → List ℕ = λ p. p.text in
    ap (map v) is
    ∙ (map-append v texts (t ∷ [])
    ∙ (ap₂ (λ l x. l ++ x ∷ []) so_far text
    ∙ (append_assoc (map v old) (map own (take i ps)) (own (get_or ps i d) ∷ [])
    ∙ ap (λ l. map v old ++ l) (sym (map_more own ps i d within)))))

-- ---- feature by feature

-- the texts so far, and those of the features that are left, are all; and there is room for the rest
pub record AreTexts (features rest : List FeatureView) (texts : List (List ℕ)) : Type 0 where
  pub whole : texts ++ texts_of rest ≡ texts_of features
  pub few : length texts + sum_by rows_of rest ≤ most_rows

pub no_texts : (features rest : List FeatureView) → rest ≡ features → sum_by rows_of features ≤ most_rows → AreTexts features rest []
no_texts features rest same few = record { whole = ap texts_of same; few = subst (λ fs. 0 + sum_by rows_of fs ≤ most_rows) (sym same) (omega (arith, few)) }

pub more_texts : (features : List FeatureView) (f : FeatureView) (rest : List FeatureView) (texts more : List (List ℕ)) → AreTexts features (f ∷ rest) texts → more ≡ texts ++ map (λ p. p.text) f.phrases → length f.phrases ≤ rows_of f → AreTexts features rest more
more_texts features f rest texts more are is few =
    let own = map (λ (p : Phrase). p.text) f.phrases in
    record {
      whole = ap (λ l. l ++ texts_of rest) is ∙ (append_assoc texts own (texts_of rest) ∙ are.whole);
      few =
          let long : length more ≡ length (texts ++ own) = ap (length {A = List ℕ}) is in
          omega (arith, long, length-append texts own, length-map f.phrases (λ (p : Phrase). p.text), sum_by-cons rows_of f rest, few, are.few);
    }
