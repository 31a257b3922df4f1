-- For private contracts alone: what is made of the texts in languages, member after member, and the phrases collected part after part.
use denote.Ref.{Bor}
use Rattle.std.specs.Prelude.{◌≡◌, ℕ, ◌-◌, List, [], ◌∷◌, ◌++◌, min, fold, if◌then◌else◌, Option, Some, None, option_map, string_bytes}
use Rattle.std.specs.List.{list_any}
use Rattle.std.specs.BTreeSet.{BTreeSet, contains}
use Rattle.std.specs.String.{string_cmp}
use Rattle.std.specs.Ordering.{nat_cmp, ordering_then}
use Rattle.std.specs.declared.cmp.Ordering.{Ordering}
use Rattle.geo_text.specs.Tokens.{Replacements, joined, are_some_tokens}
use Rattle.feature_json.specs.Shape.{Shape}
use Rattle.feature_reader.specs.Languages.{bits_of}
use Rattle.feature_reader.specs.Feature.{is_own_text, text_by_code, phrases_of, same_phrase}
use Rattle.feature_reader.specs.declared.phrase.Phrase.{Phrase}
use Rattle.feature_reader.specs.declared.text_phrases.PhraseKey.{PhraseKey}

-- the text by its code that a member is, as a list: none where the member is another one or null; nothing where it isn't a string
abbrev pub own_text : List ℕ × Shape → Option (List (List ℕ × List ℕ))
own_text m = if is_own_text m then option_map (λ t. t ∷ []) (text_by_code m) else Some []

-- a code and a text, where there are some, as a list
abbrev pub list_of_text : Option (List ℕ × Bor (List ℕ)) → List (List ℕ × List ℕ)
list_of_text None = []
list_of_text (Some own) = (own.0, own.1.now) ∷ []

-- what f makes of x by these texts; x stays where they can't be told
abbrev pub after_texts : {X : Type 0} → (X → List ℕ × List ℕ → X) → X → Option (List (List ℕ × List ℕ)) → X
after_texts f x (Some own) = fold f x own
after_texts f x None = x

-- what f makes of x by the texts in languages of the members
abbrev pub after_members : {X : Type 0} → (X → List ℕ × List ℕ → X) → X → List (List ℕ × Shape) → X
after_members f x members = fold (λ x m. after_texts f x (own_text m)) x members

-- the languages without that of a text
abbrev pub without_language : List (List ℕ) → ℕ → List ℕ × List ℕ → ℕ
without_language langs set own = set - bits_of langs own.0

-- the phrases with one more, unless it stands among them
abbrev pub with_phrase : List Phrase → Phrase → List Phrase
with_phrase ps p = if list_any (same_phrase p) ps then ps else ps ++ p ∷ []

-- the phrases with those of a text in a language
abbrev pub with_own : Replacements → List (List ℕ) → ℕ → List Phrase → List ℕ × List ℕ → List Phrase
with_own replacements langs cap ps own = fold with_phrase ps (phrases_of replacements cap own.1 (bits_of langs own.0))

-- the phrases so far and the relevance of the next part, with one more piece of a text, which is a part where it has 1 to 20 tokens
abbrev pub with_piece : ℕ → ℕ → List Phrase × ℕ → List (List ℕ) → List Phrase × ℕ
with_piece set cap so_far tokens =
    if are_some_tokens tokens then (with_phrase so_far.0 (record { text = joined tokens; set = record { bits = set }; relev = so_far.1 }), min cap 80) else so_far

-- the phrase that is looked up by a key
abbrev pub phrase_of_key : PhraseKey → Phrase
phrase_of_key k = record { text = string_bytes k.text; set = record { bits = k.bits }; relev = k.relev }

-- the order of the keys
abbrev pub key_cmp : PhraseKey → PhraseKey → Ordering
key_cmp a b = ordering_then (string_cmp a.text b.text) (ordering_then (nat_cmp a.bits b.bits) (nat_cmp a.relev b.relev))

-- the keys are those of the phrases
abbrev pub AreSeen : BTreeSet PhraseKey → List Phrase → Type 0
AreSeen seen ps = (k : PhraseKey) → contains key_cmp seen k ≡ list_any (same_phrase (phrase_of_key k)) ps
