-- The phrases of a feature, collected part after part, are its distinct phrases.
use Rattle.std.proofs.Common.{◌≡◌, ◌∙◌, ◌==◌, ◌-◌, ℕ, Bool, true, false, cond, not, List, [], ◌∷◌, ◌++◌, ◌&&◌, ◌||◌, map, filter, fold, min, refl, sym, ap, arith, append_assoc, append-nil, Option, None, Some}
use Rattle.std.specs.Prelude.{bytes_eq, is_some, flat_map, option_and_then, option_map}
use Rattle.std.specs.List.{list_any, list_all}
use Rattle.std.specs.BTreeSet.{BTreeSet, contains}
use Rattle.std.specs.BTreeSet as sorted
use Rattle.std.specs.BTreeMap.{is_at}
use Rattle.std.specs.String.{string_cmp}
use Rattle.std.specs.Ordering.{nat_cmp, is_eq, ordering_then}
use Rattle.std.specs.Prelude.{string_bytes}
use Rattle.std.specs.declared.cmp.Ordering.{Ordering}
use Rattle.std.specs.declared.cmp.Ordering.TheVariants.{Less, Equal, Greater}
use Rattle.std.proofs.lemmas.Bool.{and_parts, false_from_ne_true, not-true, not-false}
use Rattle.std.proofs.lemmas.Bool.Decides.{nat_tests}
use Rattle.std.proofs.lemmas.List.Folds.{list_any-append}
use Rattle.std.proofs.lemmas.List.Sums.{fold-append}
use Rattle.std.proofs.lemmas.Map.Text.{is_eq-slice_cmp}
use Rattle.std.proofs.lemmas.Slice.Eq.{bytes_eq-Decides}
use Rattle.geo_text.specs.Tokens.{Replacements, tokens_of, replaced, joined, are_some_tokens}
use Rattle.geo_text.specs.Parts.{pieces, ranked}
use Rattle.geo_layer.specs.Json.{each_of}
use Rattle.feature_json.specs.Shape.{Shape}
use Rattle.feature_reader.specs.Languages.{all_languages, bits_of, other_languages}
use Rattle.feature_reader.specs.Feature.{is_own_text, text_by_code, own_texts, phrases_of, same_phrase, distinct, all_phrases}
use Rattle.feature_reader.specs.Collected.{own_text, AreSeen, phrase_of_key, key_cmp, with_phrase, with_piece, with_own, without_language, after_texts, after_members}
use Rattle.feature_reader.specs.declared.phrase.Phrase.{Phrase}
use Rattle.feature_reader.specs.declared.text_phrases.PhraseKey.{PhraseKey}

-- ---- equal phrases

bytes_is : (a b : List ℕ) → bytes_eq a b ≡ true → a ≡ b
bytes_is a b e = grind (arith, nat_tests, bytes_eq-Decides a b)

bytes_itself : (a : List ℕ) → bytes_eq a a ≡ true
bytes_itself a = grind (arith, nat_tests, bytes_eq-Decides a a)

nat_is : (m n : ℕ) → (m == n) ≡ true → m ≡ n
nat_is m n e = grind (arith, nat_tests)

nat_itself : (n : ℕ) → (n == n) ≡ true
nat_itself n = grind (arith, nat_tests)

-- phrases that are the same are one
pub same_is : (p q : Phrase) → same_phrase p q ≡ true → p ≡ q
same_is p q e =
    let both = and_parts _ _ e in
    let numbers = and_parts _ _ both.1 in
    let made : List ℕ → ℕ → ℕ → Phrase = λ t b n. record { text = t; set = record { bits = b }; relev = n } in
    ap (λ t. made t p.set.bits p.relev) (bytes_is p.text q.text both.0)
    ∙ (ap (λ b. made q.text b p.relev) (nat_is p.set.bits q.set.bits numbers.0) ∙ ap (λ n. made q.text q.set.bits n) (nat_is p.relev q.relev numbers.1))

-- a phrase is the same as itself
pub same_itself : (p : Phrase) → same_phrase p p ≡ true
same_itself p = rw (bytes_itself p.text, nat_itself p.set.bits, nat_itself p.relev) refl

same_back : (p q : Phrase) → same_phrase p q ≡ false → same_phrase q p ≡ false
same_back p q e = false_from_ne_true (same_phrase q p) (λ t. let is : q ≡ p = same_is q p t in let bad : false ≡ true = sym e ∙ (ap (same_phrase p) is ∙ same_itself p) in cc)

-- ---- a filter after a filter

module _ {X : Type 0} where
  pub narrower : (f g h : X → Bool) → ((x : X) → (g x ≡ true → f x ≡ h x) × (g x ≡ false → h x ≡ false)) → (xs : List X) → filter f (filter g xs) ≡ filter h xs
  narrower f g h says [] = refl
  narrower f g h says (x ∷ xs) =
      elim (g x) as (λ b. g x ≡ b → filter f (cond b (x ∷ filter g xs) (filter g xs)) ≡ cond (h x) (x ∷ filter h xs) (filter h xs)) [
        | true ↦ λ e. ap (λ l. cond (f x) (x ∷ l) l) (narrower f g h says xs) ∙ ap (λ b. cond b (x ∷ filter h xs) (filter h xs)) ((says x).0 e)
        | false ↦ λ e. narrower f g h says xs ∙ sym (ap (λ b. cond b (x ∷ filter h xs) (filter h xs)) ((says x).1 e))
      ] refl

  filter_all : (xs : List X) → filter (λ x. true) xs ≡ xs
  filter_all [] = refl
  filter_all (x ∷ xs) = ap (λ l. x ∷ l) (filter_all xs)

-- ---- phrase after phrase

-- the phrase is not among these
abbrev is_new : List Phrase → Phrase → Bool
is_new ps q = not (list_any (same_phrase q) ps)

-- the phrase differs from q
abbrev differs : Phrase → Phrase → Bool
differs q r = not (same_phrase q r)

repeats : (q : Phrase) (ps : List Phrase) → list_any (same_phrase q) ps ≡ true → (r : Phrase) → (differs q r ≡ true → is_new ps r ≡ is_new ps r) × (differs q r ≡ false → is_new ps r ≡ false)
repeats q ps there r = (λ e. refl, λ e. ap not (ap (λ s. list_any (same_phrase s) ps) (sym (same_is q r (not-false _ e))) ∙ there))

added : (q : Phrase) (ps : List Phrase) (r : Phrase) → (differs q r ≡ true → is_new ps r ≡ is_new (ps ++ q ∷ []) r) × (differs q r ≡ false → is_new (ps ++ q ∷ []) r ≡ false)
added q ps r =
    let all = list_any-append (same_phrase r) ps (q ∷ []) in (
      λ e. ap not (sym (all ∙ (ap (λ b. list_any (same_phrase r) ps || (b || false)) (same_back q r (not-true _ e)) ∙ or_false (list_any (same_phrase r) ps)))),
      λ e. ap not (all ∙ (ap (λ b. list_any (same_phrase r) ps || (b || false)) (ap (same_phrase r) (same_is q r (not-false _ e)) ∙ same_itself r) ∙ or_true (list_any (same_phrase r) ps))),
    )
  where
    or_false : (b : Bool) → (b || false) ≡ b
    or_false true = refl
    or_false false = refl

    or_true : (b : Bool) → (b || true) ≡ true
    or_true true = refl
    or_true false = refl

-- phrases are added to those that stand, each once
collected : (ps qs : List Phrase) → fold with_phrase ps qs ≡ ps ++ filter (is_new ps) (distinct qs)
collected ps [] = sym (append-nil ps)
collected ps (q ∷ qs) =
    elim (list_any (same_phrase q) ps) as (λ b. list_any (same_phrase q) ps ≡ b → fold with_phrase (cond b ps (ps ++ q ∷ [])) qs ≡ ps ++ cond (not b) (q ∷ filter (is_new ps) (filter (differs q) (distinct qs))) (filter (is_new ps) (filter (differs q) (distinct qs)))) [
      | true ↦ λ e. collected ps qs ∙ ap (λ l. ps ++ l) (sym (narrower (is_new ps) (differs q) (is_new ps) (repeats q ps e) (distinct qs)))
      | false ↦ λ e.
          collected (ps ++ q ∷ []) qs
          ∙ append_assoc ps (q ∷ []) (filter (is_new (ps ++ q ∷ [])) (distinct qs))
          ∙ ap (λ l. ps ++ q ∷ l) (sym (narrower (is_new ps) (differs q) (is_new (ps ++ q ∷ [])) (added q ps) (distinct qs)))
    ] refl

-- added to none they are the distinct ones
collected_all : (qs : List Phrase) → fold with_phrase [] qs ≡ distinct qs
collected_all qs = collected [] qs ∙ filter_all (distinct qs)

-- ---- piece after piece

module _ (set cap : ℕ) where
  -- a part with its relevance as a phrase
  abbrev part_phrase : List (List ℕ) × ℕ → Phrase
  part_phrase part = record { text = joined part.0; set = record { bits = set }; relev = part.1 }

  -- a later part
  abbrev later_part : List (List ℕ) → List (List ℕ) × ℕ
  later_part tokens = (tokens, min cap 80)

  later_pieces : (toks : List (List (List ℕ))) (ps : List Phrase) → (fold (with_piece set cap) (ps, min cap 80) toks).0 ≡ fold with_phrase ps (map part_phrase (map later_part (filter are_some_tokens toks)))
  later_pieces [] ps = refl
  later_pieces (tokens ∷ toks) ps =
      elim (are_some_tokens tokens) as (λ b. (fold (with_piece set cap) (cond b (with_phrase ps (part_phrase (tokens, min cap 80)), min cap 80) (ps, min cap 80)) toks).0 ≡ fold with_phrase ps (map part_phrase (map later_part (cond b (tokens ∷ filter are_some_tokens toks) (filter are_some_tokens toks))))) [
        | true ↦ later_pieces toks (with_phrase ps (part_phrase (tokens, min cap 80)))
        | false ↦ later_pieces toks ps
      ]

  all_pieces : (toks : List (List (List ℕ))) (ps : List Phrase) → (fold (with_piece set cap) (ps, min cap 100) toks).0 ≡ fold with_phrase ps (map part_phrase (ranked cap (filter are_some_tokens toks)))
  all_pieces [] ps = refl
  all_pieces (tokens ∷ toks) ps =
      elim (are_some_tokens tokens) as (λ b. (fold (with_piece set cap) (cond b (with_phrase ps (part_phrase (tokens, min cap 100)), min cap 80) (ps, min cap 100)) toks).0 ≡ fold with_phrase ps (map part_phrase (ranked cap (cond b (tokens ∷ filter are_some_tokens toks) (filter are_some_tokens toks))))) [
        | true ↦ later_pieces toks (with_phrase ps (part_phrase (tokens, min cap 100)))
        | false ↦ all_pieces toks ps
      ]

-- the tokens of each piece of a text, each replaced
abbrev pub tokens_in : Replacements → List (List ℕ) → List (List (List ℕ))
tokens_in replacements parts = map (λ piece. replaced replacements (tokens_of piece)) parts

-- collected piece after piece, they are the phrases of the text
pub phrases_collected : (replacements : Replacements) (cap : ℕ) (text : List ℕ) (set : ℕ) (ps : List Phrase) → fold with_phrase ps (phrases_of replacements cap text set) ≡ (fold (with_piece set cap) (ps, min cap 100) (tokens_in replacements (pieces text))).0
phrases_collected replacements cap text set ps = sym (all_pieces set cap (tokens_in replacements (pieces text)) ps)

-- ---- text after text

-- the texts of one more member
pub own_texts_more : (m : List ℕ × Shape) (members : List (List ℕ × Shape)) → own_texts (m ∷ members) ≡ option_and_then (λ a. option_map (λ b. a ++ b) (own_texts members)) (own_text m)
own_texts_more m members = elim (is_own_text m) as (λ b. each_of text_by_code (cond b (m ∷ filter is_own_text members) (filter is_own_text members)) ≡ option_and_then (λ a. option_map (λ b. a ++ b) (own_texts members)) (cond b (option_map (λ t. t ∷ []) (text_by_code m)) (Some []))) [
  | true ↦ one (text_by_code m) (own_texts members)
  | false ↦ none (own_texts members)
]
  where
    one : (t : Option (List ℕ × List ℕ)) (o : Option (List (List ℕ × List ℕ))) → option_and_then (λ y. option_and_then (λ ys. Some (y ∷ ys)) o) t ≡ option_and_then (λ a. option_map (λ b. a ++ b) o) (option_map (λ t. t ∷ []) t)
    one None o = refl
    one (Some t) None = refl
    one (Some t) (Some ts) = refl

    none : (o : Option (List (List ℕ × List ℕ))) → o ≡ option_map (λ b. [] ++ b) o
    none None = refl
    none (Some ts) = refl

module _ {X : Type 0} (f : X → List ℕ × List ℕ → X) where
  after_step : (x : X) (first more : Option (List (List ℕ × List ℕ))) (after : X → X) (own : List (List ℕ × List ℕ))
      → ((rest : List (List ℕ × List ℕ)) → more ≡ Some rest → (y : X) → after y ≡ fold f y rest)
      → option_and_then (λ a. option_map (λ b. a ++ b) more) first ≡ Some own → after (after_texts f x first) ≡ fold f x own
  after_step x None more after own rest is = absurd (cc is)
  after_step x (Some a) None after own rest is = absurd (cc is)
  after_step x (Some a) (Some b) after own rest is =
      let same : a ++ b ≡ own = cc is in
      rest b refl (fold f x a) ∙ (sym (fold-append f x a b) ∙ ap (fold f x) same)

  -- member after member it is text after text
  pub after_own_texts : (members : List (List ℕ × Shape)) (x : X) (own : List (List ℕ × List ℕ)) → own_texts members ≡ Some own → after_members f x members ≡ fold f x own
  after_own_texts [] x own is = let same : [] ≡ own = cc is in ap (fold f x) same
  after_own_texts (m ∷ members) x own is = after_step x (own_text m) (own_texts members) (λ y. after_members f y members) own (λ rest e y. after_own_texts members y rest e) (sym (own_texts_more m members) ∙ is)

-- the languages without those of the texts
others_collected : (langs : List (List ℕ)) (own : List (List ℕ × List ℕ)) (set : ℕ) → fold (without_language langs) set own ≡ fold (λ set code. set - bits_of langs code) set (map (λ t. t.0) own)
others_collected langs [] set = refl
others_collected langs (t ∷ own) set = others_collected langs own (set - bits_of langs t.0)

-- the phrases of each text after those of the texts before
own_collected : (r : Replacements) (langs : List (List ℕ)) (cap : ℕ) (own : List (List ℕ × List ℕ)) (ps : List Phrase) → fold (with_own r langs cap) ps own ≡ fold with_phrase ps (flat_map (λ t. phrases_of r cap t.1 (bits_of langs t.0)) own)
own_collected r langs cap [] ps = refl
own_collected r langs cap (t ∷ own) ps =
    own_collected r langs cap own (fold with_phrase ps (phrases_of r cap t.1 (bits_of langs t.0)))
    ∙ sym (fold-append with_phrase ps (phrases_of r cap t.1 (bits_of langs t.0)) (flat_map (λ t. phrases_of r cap t.1 (bits_of langs t.0)) own))

-- the phrases of the text and then of the members are those of the feature
pub feature_collected : (r : Replacements) (langs : List (List ℕ)) (cap : ℕ) (text : List ℕ) (members : List (List ℕ × Shape)) (own : List (List ℕ × List ℕ)) (others : ℕ) (first all : List Phrase) → own_texts members ≡ Some own
    → others ≡ after_members (without_language langs) all_languages members → first ≡ fold with_phrase [] (phrases_of r cap text others) → all ≡ after_members (with_own r langs cap) first members → all ≡ all_phrases r langs cap text own
feature_collected r langs cap text members own others first all is set begun ended =
    let same : others ≡ other_languages langs (map (λ t. t.0) own) = set ∙ (after_own_texts (without_language langs) members all_languages own is ∙ others_collected langs own all_languages) in
    let more : List Phrase = flat_map (λ t. phrases_of r cap t.1 (bits_of langs t.0)) own in
    ended
    ∙ after_own_texts (with_own r langs cap) members first own is
    ∙ own_collected r langs cap own first
    ∙ ap (λ ps. fold with_phrase ps more) (begun ∙ ap (λ bits. fold with_phrase [] (phrases_of r cap text bits)) same)
    ∙ sym (fold-append with_phrase [] (phrases_of r cap text (other_languages langs (map (λ t. t.0) own))) more)
    ∙ collected_all (phrases_of r cap text (other_languages langs (map (λ t. t.0) own)) ++ more)

-- each member is no text in a language or a string
pub string_members : (members : List (List ℕ × Shape)) → list_all (λ m. is_some (own_text m)) members ≡ is_some (own_texts members)
string_members [] = refl
string_members (m ∷ members) = ap (λ b. is_some (own_text m) && b) (string_members members) ∙ both (own_text m) (own_texts members) ∙ ap is_some (sym (own_texts_more m members))
  where
    both : (first more : Option (List (List ℕ × List ℕ))) → (is_some first && is_some more) ≡ is_some (option_and_then (λ a. option_map (λ b. a ++ b) more) first)
    both None more = refl
    both (Some a) None = refl
    both (Some a) (Some b) = refl

-- ---- the keys beside the phrases

then_eq : (a b : Ordering) → is_eq (ordering_then a b) ≡ (is_eq a && is_eq b)
then_eq Less b = refl
then_eq Equal b = refl
then_eq Greater b = refl

nat_eq_cmp : (m n : ℕ) → is_eq (nat_cmp m n) ≡ (m == n)
nat_eq_cmp m n = grind (arith, nat_tests)

-- two keys are equal where their phrases are the same
same_key : (a b : PhraseKey) → is_at (key_cmp a) b ≡ same_phrase (phrase_of_key a) (phrase_of_key b)
same_key a b =
    then_eq (string_cmp a.text b.text) (ordering_then (nat_cmp a.bits b.bits) (nat_cmp a.relev b.relev))
    ∙ (ap (λ t. t && is_eq (ordering_then (nat_cmp a.bits b.bits) (nat_cmp a.relev b.relev))) (is_eq-slice_cmp (string_bytes a.text) (string_bytes b.text))
    ∙ ap (λ t. bytes_eq (string_bytes a.text) (string_bytes b.text) && t) (then_eq (nat_cmp a.bits b.bits) (nat_cmp a.relev b.relev) ∙ (ap (λ t. t && is_eq (nat_cmp a.relev b.relev)) (nat_eq_cmp a.bits b.bits) ∙ ap (λ t. (a.bits == b.bits) && t) (nat_eq_cmp a.relev b.relev))))

-- the set with a key tells of the phrases with its phrase
pub seen_with : (seen more : BTreeSet PhraseKey) (ps : List Phrase) (key : PhraseKey) → AreSeen seen ps → sorted.Updates key_cmp seen more key true → AreSeen more (ps ++ phrase_of_key key ∷ [])
seen_with seen more ps key known updates = λ k.
    updates.0 k
    ∙ one (is_at (key_cmp key) k) (same_phrase (phrase_of_key k) (phrase_of_key key)) (contains key_cmp seen k) _ (same_key key k ∙ same_turned (phrase_of_key key) (phrase_of_key k)) (known k)
    ∙ sym (list_any-append (same_phrase (phrase_of_key k)) ps (phrase_of_key key ∷ []))
  where
    one : (b c d e : Bool) → b ≡ c → d ≡ e → cond b true d ≡ (e || (c || false))
    one true true d true bc de = refl
    one true true d false bc de = refl
    one true false d e bc de = cc
    one false true d e bc de = cc
    one false false true true bc de = refl
    one false false false false bc de = refl
    one false false true false bc de = cc
    one false false false true bc de = cc

    same_turned : (p q : Phrase) → same_phrase p q ≡ same_phrase q p
    same_turned p q = by (same_phrase p q) refl
      where
        by : (b : Bool) → same_phrase p q ≡ b → b ≡ same_phrase q p
        by true e = sym (ap (λ r. same_phrase q r) (same_is p q e) ∙ same_itself q)
        by false e = sym (same_back p q e)

-- whether a key is new tells whether its phrase is
pub with_new : (seen : BTreeSet PhraseKey) (ps : List Phrase) (key : PhraseKey) (p : Phrase) → AreSeen seen ps → phrase_of_key key ≡ p → (added : Bool) → added ≡ not (contains key_cmp seen key) → cond added (ps ++ p ∷ []) ps ≡ with_phrase ps p
with_new seen ps key p known is added told =
    turned added (contains key_cmp seen key) told ∙ ap (λ b. cond b ps (ps ++ p ∷ [])) (known key ∙ ap (λ q. list_any (same_phrase q) ps) is)
  where
    turned : (a b : Bool) → a ≡ not b → cond a (ps ++ p ∷ []) ps ≡ cond b ps (ps ++ p ∷ [])
    turned a true e = ap (λ t. cond t (ps ++ p ∷ []) ps) e
    turned a false e = ap (λ t. cond t (ps ++ p ∷ []) ps) e
