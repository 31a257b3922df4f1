-- The codes of a feature's texts in languages differ.
use Rattle.std.proofs.Common.{◌≡◌, ◌∙◌, ◌&&◌, ◌||◌, ◌++◌, ℕ, Bool, true, false, cond, not, List, [], ◌∷◌, map, filter, Option, Some, None, Less, nat_cmp, refl, sym, ap, subst, true≢false}
use Rattle.std.specs.Prelude.{IfSome, bytes_eq, codes, drop, option_and_then, option_map}
use Rattle.std.specs.List.{list_any}
use Rattle.std.specs.Ordering.{is_eq}
use Rattle.std.specs.Cmp.Lexicographic.{slice_cmp}
use Rattle.std.proofs.lemmas.Bool.{false_from_ne_true}
use Rattle.std.proofs.lemmas.Bool.Decides.{Decides-eqb}
use Rattle.std.proofs.lemmas.Map.Text.{is_eq-slice_cmp}
use Rattle.std.proofs.lemmas.Slice.Eq.{bytes_eq-Decides, starts_is}
use Rattle.geo_layer.specs.Json.{each_of}
use Rattle.geo_layer.specs.Langs.{all_differ}
use Rattle.feature_json.specs.Shape.{Shape, text_of}
use Rattle.feature_json.specs.Own.{is_own_name}
use Rattle.feature_json.specs.Said.{Said, SaidProperties, said}
use Rattle.feature_json.proofs.Ordered.{IsBefore, OwnRise, own_names_rise}
use Rattle.feature_reader.specs.Feature.{own_texts, is_own_text, text_by_code}

-- what stands behind `carmen:text_` in the name of a member
abbrev code_of : List ℕ × Shape → List ℕ
code_of m = drop 12 m.0

-- ---- names that begin alike

name_is : (name : List ℕ) → is_own_name name ≡ true → name ≡ codes "carmen:text_" ++ drop 12 name
name_is name is = (starts_is Decides-eqb name (codes "carmen:text_") _ refl).0 is

same_name : (a b : List ℕ) → is_own_name a ≡ true → is_own_name b ≡ true → drop 12 a ≡ drop 12 b → a ≡ b
same_name a b is_a is_b same = name_is a is_a ∙ ap (λ rest. codes "carmen:text_" ++ rest) same ∙ sym (name_is b is_b)

-- of two names of which one comes first, the codes differ
other_code : (a b : List ℕ) → is_own_name a ≡ true → is_own_name b ≡ true → slice_cmp nat_cmp a b ≡ Less → bytes_eq (drop 12 a) (drop 12 b) ≡ false
other_code a b is_a is_b less =
    let apart : bytes_eq a b ≡ false = sym (is_eq-slice_cmp a b) ∙ ap is_eq less in
    false_from_ne_true (bytes_eq (drop 12 a) (drop 12 b))
    (λ tie. true≢false (sym ((bytes_eq-Decides a b).1 (same_name a b is_a is_b ((bytes_eq-Decides (drop 12 a) (drop 12 b)).0 tie))) ∙ apart))

-- ---- the codes of some of the members

module _ (test : List ℕ × Shape → Bool) where
  not_at : (b : Bool) (code : List ℕ) (m : List ℕ × Shape) (ms : List (List ℕ × Shape)) → bytes_eq code (code_of m) ≡ false → list_any (bytes_eq code) (map code_of ms) ≡ false
      → list_any (bytes_eq code) (map code_of (cond b (m ∷ ms) ms)) ≡ false
  not_at true code m ms apart later = ap (λ b. b || list_any (bytes_eq code) (map code_of ms)) apart ∙ later
  not_at false code m ms apart later = later

  -- a code is none of those of the members behind
  not_behind : (name : List ℕ) (own : List (List ℕ × Shape)) → is_own_name name ≡ true → IsBefore name own → OwnRise own → list_any (bytes_eq (drop 12 name)) (map code_of (filter test own)) ≡ false
  not_behind name [] is before rise = refl
  not_behind name (m ∷ own) is before rise = not_at (test m) (drop 12 name) m (filter test own) (other_code name m.0 is rise.0 before.0) (not_behind name own is before.1 rise.2)

  differ_at : (b : Bool) (m : List ℕ × Shape) (ms : List (List ℕ × Shape)) → list_any (bytes_eq (code_of m)) (map code_of ms) ≡ false → all_differ (map code_of ms) ≡ true
      → all_differ (map code_of (cond b (m ∷ ms) ms)) ≡ true
  differ_at true m ms none later = ap (λ b. not b && all_differ (map code_of ms)) none ∙ later
  differ_at false m ms none later = later

  codes_differ : (own : List (List ℕ × Shape)) → OwnRise own → all_differ (map code_of (filter test own)) ≡ true
  codes_differ [] rise = refl
  codes_differ (m ∷ own) rise = differ_at (test m) m (filter test own) (not_behind m.0 own rise.0 rise.1 rise.2) (codes_differ own rise.2)

-- ---- the texts by their codes

-- these texts have the codes of these members
abbrev HaveCodes : List (List ℕ × Shape) → List (List ℕ × List ℕ) → Type 0
HaveCodes ms texts = map (λ t. t.0) texts ≡ map code_of ms

have_at : (m : List ℕ × Shape) (ms : List (List ℕ × Shape)) (text : Option (List ℕ)) (more : Option (List (List ℕ × List ℕ))) → IfSome more (HaveCodes ms)
    → IfSome (option_and_then (λ t. option_and_then (λ ts. Some (t ∷ ts)) more) (option_map (λ text. (code_of m, text)) text)) (HaveCodes (m ∷ ms))
have_at m ms None more h = tt
have_at m ms (Some text) None h = tt
have_at m ms (Some text) (Some texts) h = ap (λ cs. code_of m ∷ cs) h

have_codes : (ms : List (List ℕ × Shape)) → IfSome (each_of text_by_code ms) (HaveCodes ms)
have_codes [] = refl
have_codes (m ∷ ms) = have_at m ms (text_of m.1) (each_of text_by_code ms) (have_codes ms)

-- the codes of the texts in languages of which bytes say differ
pub own_codes_differ : (bytes : List ℕ) (s : Said) (p : SaidProperties) (own : List (List ℕ × List ℕ)) → said bytes ≡ Some s → s.properties ≡ Some p → own_texts p.values.own ≡ Some own → all_differ (map (λ t. t.0) own) ≡ true
own_codes_differ bytes s p own is has texts =
    let same : map (λ t. t.0) own ≡ map code_of (filter is_own_text p.values.own) = subst (λ o. IfSome o (HaveCodes (filter is_own_text p.values.own))) texts (have_codes (filter is_own_text p.values.own)) in
    ap all_differ same ∙ codes_differ is_own_text p.values.own (own_names_rise bytes s p is has)
