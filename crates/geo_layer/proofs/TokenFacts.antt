-- The tokens of a layer: one of a text, and the pairs that are put one after the other.
use Rattle.std.proofs.Common.{◌≡◌, ◌∙◌, ◌+◌, ◌<◌, ◌≤◌, ℕ, suc, Bool, true, false, cond, not, ◌||◌, ◌&&◌, List, [], ◌∷◌, length, map, nat_le, refl, sym, ap, subst, arith, Option, None, Some, bytes_eq, All, String}
use Rattle.std.specs.Prelude.{string_bytes, fold, is_some, option_map, option_and_then}
use Rattle.std.specs.List.{list_all, list_any}
use Rattle.std.specs.BTreeMap.{insert_entry}
use Rattle.std.specs.Cmp.Lexicographic.{slice_cmp}
use Rattle.std.specs.Ordering.{nat_cmp, is_eq, match_ordering}
use Rattle.std.specs.declared.cmp.Ordering.{Ordering}
use Rattle.std.specs.declared.cmp.Ordering.TheVariants.{Less, Equal, Greater}
use Rattle.std.specs.declared.alloc.Global.{Global}
use Rattle.std.proofs.lemmas.Bool.{leb-true, le-leb, lt-leb}
use Rattle.std.proofs.lemmas.List.Elements.{All-head}
use Rattle.std.proofs.lemmas.Map.Text.{is_eq-slice_cmp}
use Rattle.std.proofs.lemmas.Option.{option_and_then_some}
use Rattle.std.proofs.lemmas.Slice.Eq.{bytes_eq-Decides}
use Rattle.serde_json.specs.Data.{Data, Members, no_members}
use Rattle.serde_json.specs.Data as json
use Rattle.serde_json.specs.Find.{as_str, as_object}
use Rattle.serde_json.specs.View.{view, members_view}
use Rattle.serde_json.specs.declared.value.Value.{Value}
use Rattle.geo_text.specs.Tokens.{Replacements, replacement, tokens_of}
use Rattle.geo_text.specs.Words.{IsWord}
use Rattle.geo_text.proofs.Words.{tokens_are_words}
use Rattle.geo_layer.specs.Langs.{all_differ}
use Rattle.geo_layer.specs.LayerText.{the_one, one_token, pairs_of, with_pair, distinct_pairs, replacements_of}
use Rattle.geo_layer.proofs.Each.{given}
use Rattle.geo_layer.proofs.SameBytes.{bytes_eq-turned}

-- ---- one token

one_of_words : (tokens : List (List ℕ)) (token : List ℕ) → All IsWord tokens → the_one tokens ≡ Some token → IsWord token
one_of_words [] token all is = absurd (cc is)
one_of_words (t ∷ []) token all is = let same : t ≡ token = cc in subst IsWord same (All-head IsWord t [] all)
one_of_words (t ∷ u ∷ more) token all is = absurd (cc is)

-- the one token of a text is a word
pub one_token-word : (text token : List ℕ) → one_token text ≡ Some token → IsWord token
one_token-word text token is = one_of_words (tokens_of text) token (tokens_are_words text) is

-- the one token of a string is a word
pub token-word : (text : Option (List ℕ)) (token : List ℕ) → option_and_then one_token text ≡ Some token → IsWord token
token-word text token is = option_and_then_some one_token text token is (λ t _ e. one_token-word t token e)

-- ---- one pair more

-- texts between which the order doesn't tell are one
same_text : (xs ys : List ℕ) → slice_cmp nat_cmp xs ys ≡ Equal → xs ≡ ys
same_text xs ys e = (bytes_eq-Decides xs ys).0 (sym (is_eq-slice_cmp xs ys) ∙ ap is_eq e)

-- an insertion puts the pair where it belongs
put-is : (old : Replacements) (from to : List ℕ) → insert_entry (slice_cmp nat_cmp) old from to ≡ with_pair (from, to) old
put-is [] from to = refl
put-is (q ∷ qs) from to = by_order (put-is qs from to) (slice_cmp nat_cmp from q.0) refl
  where
    Here : Ordering → Type 0
    Here o = match_ordering o ((from, to) ∷ q ∷ qs) ((q.0, to) ∷ qs) (q ∷ insert_entry (slice_cmp nat_cmp) qs from to) ≡ match_ordering o ((from, to) ∷ q ∷ qs) ((from, to) ∷ qs) (q ∷ with_pair (from, to) qs)

    by_order : insert_entry (slice_cmp nat_cmp) qs from to ≡ with_pair (from, to) qs → (o : Ordering) → slice_cmp nat_cmp from q.0 ≡ o → Here o
    by_order later Less e = refl
    by_order later Equal e = ap (λ key. (key, to) ∷ qs) (sym (same_text from q.0 e))
    by_order later Greater e = ap (λ l. q ∷ l) later

-- the token has a replacement
abbrev has : Replacements → List ℕ → Bool
has old token = is_some (replacement old token)

-- what stands first has one
first_has : (b : Bool) (text : List ℕ) (o : Option (List ℕ)) → is_some (cond b (Some text) o) ≡ (b || is_some o)
first_has true text o = refl
first_has false text o = refl

swapped : (a b r : Bool) → (b || (a || r)) ≡ (a || (b || r))
swapped true true r = refl
swapped true false r = refl
swapped false b r = refl

twice : (a r : Bool) → (a || r) ≡ (a || (a || r))
twice true r = refl
twice false r = refl

-- with one pair more its token has a replacement, and so has what had one
put-has : (p : List ℕ × List ℕ) (old : Replacements) (token : List ℕ) → has (with_pair p old) token ≡ (bytes_eq p.0 token || has old token)
put-has p [] token = first_has (bytes_eq token p.0) p.1 None ∙ ap (λ b. b || false) (bytes_eq-turned token p.0)
put-has p (q ∷ qs) token = by_order (put-has p qs token) (slice_cmp nat_cmp p.0 q.0) refl
  where
    before : has (q ∷ qs) token ≡ (bytes_eq token q.0 || has qs token)
    before = first_has (bytes_eq token q.0) q.1 (replacement qs token)

    turned : bytes_eq token p.0 ≡ bytes_eq p.0 token
    turned = bytes_eq-turned token p.0

    Here : Ordering → Type 0
    Here o = has (match_ordering o (p ∷ q ∷ qs) (p ∷ qs) (q ∷ with_pair p qs)) token ≡ (bytes_eq p.0 token || has (q ∷ qs) token)

    by_order : has (with_pair p qs) token ≡ (bytes_eq p.0 token || has qs token) → (o : Ordering) → slice_cmp nat_cmp p.0 q.0 ≡ o → Here o
    by_order later Less e = first_has (bytes_eq token p.0) p.1 (replacement (q ∷ qs) token) ∙ ap (λ b. b || has (q ∷ qs) token) turned
    by_order later Equal e =
        let same : bytes_eq token q.0 ≡ bytes_eq p.0 token = ap (bytes_eq token) (sym (same_text p.0 q.0 e)) ∙ turned in
        first_has (bytes_eq token p.0) p.1 (replacement qs token)
        ∙ (ap (λ b. b || has qs token) turned
        ∙ (twice (bytes_eq p.0 token) (has qs token)
        ∙ ap (λ b. bytes_eq p.0 token || b) (sym (before ∙ ap (λ b. b || has qs token) same))))
    by_order later Greater e =
        first_has (bytes_eq token q.0) q.1 (replacement (with_pair p qs) token)
        ∙ (ap (λ b. bytes_eq token q.0 || b) later
        ∙ (swapped (bytes_eq p.0 token) (bytes_eq token q.0) (has qs token)
        ∙ ap (λ b. bytes_eq p.0 token || b) (sym before)))

put-length : (p : List ℕ × List ℕ) (old : Replacements) → length (with_pair p old) ≤ length old + 1
put-length p [] = omega arith
put-length p (q ∷ qs) =
    elim (slice_cmp nat_cmp p.0 q.0) as (λ o. length (match_ordering o (p ∷ q ∷ qs) (p ∷ qs) (q ∷ with_pair p qs)) ≤ length (q ∷ qs) + 1) [
      | Less ↦ omega arith
      | Equal ↦ omega arith
      | Greater ↦ omega (arith, put-length p qs)
    ]

-- ---- all pairs

-- the tokens of pairs
abbrev tokens : Replacements → List (List ℕ)
tokens pairs = map (λ p. p.0) pairs

-- none of the pairs' tokens has a replacement
abbrev none_has : Replacements → Replacements → Bool
none_has old pairs = list_all (λ q. not (has old q.0)) pairs

-- the pairs put one after the other, where none has a replacement before
abbrev merged : Replacements → Replacements → Option Replacements
merged old pairs = cond (none_has old pairs && all_differ (tokens pairs)) (Some (fold (λ ps p. with_pair p ps) old pairs)) None

one_less : (e s l a : Bool) → (not (e || s) && (l && not a)) ≡ ((not s && l) && not (e || a))
one_less true true l a = refl
one_less true false true a = refl
one_less true false false a = refl
one_less false true l a = refl
one_less false false l a = refl

none_more : (old : Replacements) (p : List ℕ × List ℕ) (pairs : Replacements) → none_has (with_pair p old) pairs ≡ (none_has old pairs && not (list_any (bytes_eq p.0) (tokens pairs)))
none_more old p [] = refl
none_more old p (q ∷ pairs) =
    ap (λ b. not b && none_has (with_pair p old) pairs) (put-has p old q.0)
    ∙ (ap (λ b. not (bytes_eq p.0 q.0 || has old q.0) && b) (none_more old p pairs)
    ∙ one_less (bytes_eq p.0 q.0) (has old q.0) (none_has old pairs) (list_any (bytes_eq p.0) (tokens pairs)))

tested : {X : Type 0} (a b c d : Bool) (o : Option X) → cond a None (cond ((b && not c) && d) o None) ≡ cond ((not a && b) && (not c && d)) o None
tested true b c d o = refl
tested false true true d o = refl
tested false true false d o = refl
tested false false c d o = refl

-- the first pair, and then the others
merged-one : (old : Replacements) (p : List ℕ × List ℕ) (pairs : Replacements) → cond (has old p.0) None (merged (with_pair p old) pairs) ≡ merged old (p ∷ pairs)
merged-one old p pairs =
    ap (λ b. cond (has old p.0) None (cond (b && all_differ (tokens pairs)) (Some (fold (λ ps p. with_pair p ps) (with_pair p old) pairs)) None)) (none_more old p pairs)
    ∙ tested (has old p.0) (none_has old pairs) (list_any (bytes_eq p.0) (tokens pairs)) (all_differ (tokens pairs)) _

none_has-none : (pairs : Replacements) → none_has [] pairs ≡ true
none_has-none [] = refl
none_has-none (p ∷ pairs) = none_has-none pairs

-- ---- all members

-- the map with the pairs of these members, where each has one and no token has a replacement before
abbrev pub onward : Replacements → Members → Option Replacements
onward old no_members = Some old
onward old (json.member key d members) = option_and_then (λ from. option_and_then (λ to. cond (has old from) None (onward (with_pair (from, to) old) members)) (option_and_then one_token (as_str d))) (one_token key)

none_either : (b : Bool) (pairs : Option Replacements) → pairs ≡ None → cond b None pairs ≡ None
none_either true pairs is = refl
none_either false pairs is = is

onward-merged : (old : Replacements) (members : Members) → onward old members ≡ option_and_then (merged old) (pairs_of members)
onward-merged old no_members = refl
onward-merged old (json.member key d members) = by_tokens (λ p. onward-merged (with_pair p old) members) (one_token key) (option_and_then one_token (as_str d))
  where
    by_pairs : (p : List ℕ × List ℕ) (o : Option Replacements) → cond (has old p.0) None (option_and_then (merged (with_pair p old)) o) ≡ option_and_then (merged old) (option_and_then (λ more. Some (p ∷ more)) o)
    by_pairs p None = none_either (has old p.0) None refl
    by_pairs p (Some pairs) = merged-one old p pairs

    by_tokens : ((p : List ℕ × List ℕ) → onward (with_pair p old) members ≡ option_and_then (merged (with_pair p old)) (pairs_of members)) → (f t : Option (List ℕ))
        → option_and_then (λ from. option_and_then (λ to. cond (has old from) None (onward (with_pair (from, to) old) members)) t) f
        ≡ option_and_then (merged old) (option_and_then (λ from. option_and_then (λ to. option_and_then (λ more. Some ((from, to) ∷ more)) (pairs_of members)) t) f)
    by_tokens later None t = refl
    by_tokens later (Some from) None = refl
    by_tokens later (Some from) (Some to) = ap (cond (has old from) None) (later (from, to)) ∙ by_pairs (from, to) (pairs_of members)

-- from nothing on, the pairs of all members
pub onward-all : (members : Members) → onward [] members ≡ option_and_then distinct_pairs (pairs_of members)
onward-all members = onward-merged [] members ∙ by (pairs_of members)
  where
    by : (o : Option Replacements) → option_and_then (merged []) o ≡ option_and_then distinct_pairs o
    by None = refl
    by (Some pairs) = ap (λ b. cond (b && all_differ (tokens pairs)) (Some (fold (λ ps p. with_pair p ps) [] pairs)) None) (none_has-none pairs)

-- nothing was found
pub none_found : {A : Type 0} (f : A → List ℕ) (found : Option A) (o : Option (List ℕ)) → option_map f found ≡ o → is_some found ≡ false → is_some o ≡ false
none_found f None o is none = ap is_some (sym is)
none_found f (Some x) o is none = absurd (cc none)

-- one member more
pub one_turn : (old new : Replacements) (key : List ℕ) (d : Data) (from to : List ℕ) (members : Members) → one_token key ≡ Some from → has old from ≡ false → option_and_then one_token (as_str d) ≡ Some to
    → new ≡ insert_entry (slice_cmp nat_cmp) old from to → onward new members ≡ onward old (json.member key d members)
one_turn old new key d from to members one free two put =
    ap (λ l. onward l members) (put ∙ put-is old from to) ∙ sym turn
  where
    turn : onward old (json.member key d members) ≡ onward (with_pair (from, to) old) members
    turn = rw (one, two, free) refl

-- ---- the tokens of a layer

-- as many pairs as members
pairs-length : (es : List (String Global × Value)) (pairs : Replacements) → pairs_of (members_view es) ≡ Some pairs → length pairs ≡ length es
pairs-length [] pairs is = let none : [] ≡ pairs = cc in ap length (sym none)
pairs-length (e ∷ es) pairs is =
    option_and_then_some _ (one_token (string_bytes e.0)) pairs is
    (λ from _ f. option_and_then_some _ (option_and_then one_token (as_str (view e.1))) pairs f
    (λ to _ g. option_and_then_some _ (pairs_of (members_view es)) pairs g
    (λ more q h. let all : (from, to) ∷ more ≡ pairs = cc in ap length (sym all) ∙ ap suc (pairs-length es more q))))

-- the pairs, where they are few
abbrev few_pairs : Replacements → Option Replacements
few_pairs pairs = cond (nat_le (length pairs) 4096) (distinct_pairs pairs) None

-- the tokens of an object of a few members
pub few_members : (d : Data) (es : List (String Global × Value)) → Some (members_view es) ≡ as_object d → length es ≤ 4096 → option_and_then distinct_pairs (pairs_of (members_view es)) ≡ replacements_of d
few_members d es is few = by (pairs_of (members_view es)) refl ∙ ap (option_and_then (λ members. option_and_then few_pairs (pairs_of members))) is
  where
    by : (o : Option Replacements) → pairs_of (members_view es) ≡ o → option_and_then distinct_pairs o ≡ option_and_then few_pairs o
    by None e = refl
    by (Some pairs) e = let low : nat_le (length pairs) 4096 ≡ true = le-leb (length pairs) 4096 (omega (arith, few, pairs-length es pairs e)) in rw low refl

-- an object of more members has none
pub many_members : (d : Data) (es : List (String Global × Value)) → Some (members_view es) ≡ as_object d → 4096 < length es → None ≡ replacements_of d
many_members d es is many = by (pairs_of (members_view es)) refl ∙ ap (option_and_then (λ members. option_and_then few_pairs (pairs_of members))) is
  where
    by : (o : Option Replacements) → pairs_of (members_view es) ≡ o → None ≡ option_and_then few_pairs o
    by None e = refl
    by (Some pairs) e = let high : nat_le (length pairs) 4096 ≡ false = lt-leb (length pairs) 4096 (omega (arith, many, pairs-length es pairs e)) in rw high refl

merged-length : (old pairs : Replacements) → length (fold (λ ps p. with_pair p ps) old pairs) ≤ length old + length pairs
merged-length old [] = omega arith
merged-length old (p ∷ pairs) = omega (arith, merged-length (with_pair p old) pairs, put-length p old)

-- the tokens of a layer are at most 4,096
pub few_tokens : (d : Data) (tokens : Replacements) → replacements_of d ≡ Some tokens → length tokens ≤ 4096
few_tokens d tokens is =
    option_and_then_some _ (as_object d) tokens is
    (λ members _ e. option_and_then_some few_pairs (pairs_of members) tokens e (λ pairs _ f. by pairs (nat_le (length pairs) 4096) refl f))
  where
    by : (pairs : Replacements) (b : Bool) → nat_le (length pairs) 4096 ≡ b → cond b (distinct_pairs pairs) None ≡ Some tokens → length tokens ≤ 4096
    by pairs false low f = absurd (cc f)
    by pairs true low f =
        let all = given (all_differ (map (λ p. p.0) pairs)) (fold (λ ps p. with_pair p ps) [] pairs) tokens f in
        omega (arith, leb-true (length pairs) 4096 low, merged-length [] pairs, ap (length {A = List ℕ × List ℕ}) all.1)
