-- On ASCII the normal form is the lower-case text, and the letters and digits stand in tokens.
use Rattle.std.proofs.Common.{◌≡◌, ◌∙◌, ◌<◌, ℕ, zero, suc, Bool, true, false, not, List, [], ◌∷◌, map, filter, refl, sym, ap, subst, nat_lt, ◌&&◌, ◌||◌, chars, encode_utf8_all, All}
use Rattle.std.specs.Prelude.{IsAscii}
use Rattle.std.specs.Char.{is_ascii_alphanumeric, to_ascii_lowercase}
use Rattle.std.proofs.lemmas.Str.{chars-IsAscii}
use Rattle.ucd_table.proofs.Facts.{Stepped-below, same_from_beq}
use Rattle.ucd_table.proofs.TrieCheck.{all_below, all_below-at}
use Rattle.std.specs.Bool.{beq}
use Rattle.std.proofs.lemmas.Bool.{and_parts, ltb-true}
use Rattle.ucd_category.proofs.Computing.{ucd_category}
use Rattle.ucd_category.specs.GeneralCategory.{general_category}
use Rattle.ucd_category.proofs.GeneralCategoryLemmas.{general_category_stepped}
use Rattle.unicode.specs.GeneralCategoryGroup.{in_group}
use Rattle.ucd_category.specs.declared.GeneralCategory.{GeneralCategory}
use Rattle.ucd_category.specs.declared.GeneralCategoryGroup.TheVariants.{Letter, Mark, Number}
use Rattle.caseless.specs.Caseless.{canonical_key}
use Rattle.caseless.proofs.CaselessLemmas.{canonical_key-ascii, default_case_fold-ascii, All-chars}
use Rattle.geo_text.specs.Normal.{is_token_char, is_combining, normal_chars}
use Rattle.geo_text.specs.Tokens.{tokens_of, runs}
use Rattle.geo_text.proofs.KeyTokens.{tokens_from, tokens_of_key}

-- the characters of the category stand in tokens
in_token : GeneralCategory → Bool
in_token v = in_group Letter v || (in_group Mark v || in_group Number v)

-- the token characters of ASCII are the letters and digits
pub is_token_char-ascii : (c : ℕ) → c < 128 → is_ascii_alphanumeric c ≡ is_token_char c
unfolding ucd_category in_token
is_token_char-ascii c below =
    same_from_beq _ _ (Stepped-below general_category general_category_stepped (λ x v. beq (is_ascii_alphanumeric x) (in_token v)) 128 refl c below)

-- what is asked of the lower case of an ASCII character
good_lower : ℕ → Bool
good_lower c = beq (is_ascii_alphanumeric (to_ascii_lowercase c)) (is_ascii_alphanumeric c) && (nat_lt (to_ascii_lowercase c) 128 && not (is_combining (to_ascii_lowercase c)))

lower_is_good : (c : ℕ) → c < 128 → good_lower c ≡ true
unfolding good_lower all_below
lower_is_good c below = all_below-at good_lower 128 c refl below

-- each character is ASCII
abbrev Small : List ℕ → Type 0
Small [] = Unit {0}
Small (c ∷ cs) = (c < 128) × Small cs

small : (bs : List ℕ) → IsAscii bs → Small bs
small [] h = tt
small (b ∷ bs) h = (h zero, small bs (λ i. h (suc i)))

-- in lower case
abbrev pub lower : List ℕ → List ℕ
lower bs = map to_ascii_lowercase bs

-- what is known of the lower case of a character
pub lower_facts : (c : ℕ) → c < 128 → (is_token_char (to_ascii_lowercase c) ≡ is_ascii_alphanumeric c) × (to_ascii_lowercase c < 128) × (is_combining (to_ascii_lowercase c) ≡ false)
unfolding good_lower
lower_facts c below =
    let good = lower_is_good c below in
    let first = and_parts _ _ good in
    let rest = and_parts _ _ first.1 in
    let within : to_ascii_lowercase c < 128 = ltb-true _ _ rest.0 in
    (sym (is_token_char-ascii _ within) ∙ same_from_beq _ _ first.0, within, not_true _ rest.1)
  where
    not_true : (b : Bool) → not b ≡ true → b ≡ false
    not_true true e = sym e
    not_true false e = refl

-- no character of it is a combining mark
nothing_left_out : (cs : List ℕ) → Small cs → filter (λ c. not (is_combining c)) (lower cs) ≡ lower cs
nothing_left_out [] h = refl
nothing_left_out (c ∷ cs) h = rw (lower_facts c h.0).2 (ap (λ l. to_ascii_lowercase c ∷ l) (nothing_left_out cs h.1))

-- the normal form of an ASCII text is its lower case
pub normal_chars-ascii : (bs : List ℕ) → IsAscii bs → normal_chars (chars bs) ≡ lower bs
normal_chars-ascii bs ascii =
    ap (filter (λ c. not (is_combining c))) (ap canonical_key (chars-IsAscii bs ascii) ∙ (canonical_key-ascii bs all ∙ default_case_fold-ascii bs all)) ∙ nothing_left_out bs (small bs ascii)
  where
    all : All (λ c. c < 128) bs
    all = subst (All (λ c. c < 128)) (chars-IsAscii bs ascii) (All-chars bs ascii)

-- the tokens of an ASCII text are those of its lower case, walked once
pub tokens_of-ascii : (bs : List ℕ) → IsAscii bs → tokens_of bs ≡ tokens_from [] (lower bs)
tokens_of-ascii bs ascii =
    ap (λ cs. map encode_utf8_all (runs is_token_char cs)) (normal_chars-ascii bs ascii ∙ sym (nothing_left_out bs (small bs ascii)))
    ∙ tokens_of_key (lower bs)
