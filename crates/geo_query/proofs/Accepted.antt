-- A line without a fault spells the query of its parts.
use Rattle.std.proofs.Common.{◌≡◌, ◌≤◌, Bool, true, ℕ, List, length, chars, refl, Ok, Option}
use Rattle.std.specs.Prelude.{codes, option_and_then}
use Rattle.std.proofs.lemmas.Bool.{le-ltb}
use Rattle.geo_base.specs.TileBox.{BoxView}
use Rattle.geo_text.specs.Tokens.{tokens_of}
use Rattle.geo_text.specs.Words.{words_of}
use Rattle.geo_query.specs.Query.{query_of, option_words, query_text, options_fit, option_value, box_fits, box_of, is_auto}

-- the options fit, their box is one, and the text is neither too long nor of too few or too many tokens
without_fault : (line : List ℕ) → options_fit (option_words line) ≡ true → box_fits (option_value (codes "box") (option_words line)) ≡ true
    → length (chars (query_text line)) ≤ 256 → 1 ≤ length (tokens_of (query_text line)) → length (tokens_of (query_text line)) ≤ 20
    → query_of line ≡ Ok (record {
      tokens = tokens_of (query_text line);
      auto = is_auto (option_value (codes "auto") (option_words line));
      lang = option_value (codes "lang") (option_words line);
      bounds = option_and_then box_of (option_value (codes "box") (option_words line));
    })
without_fault line fit box short some few = rw (fit, box, le-ltb 256 _ short, le-ltb _ 1 some, le-ltb 20 _ few) refl

-- the same, of the parts as they were read
pub accepted : (line words text : List ℕ) (tokens : List (List ℕ)) (auto : Bool) (lang : Option (List ℕ)) (bounds : Option BoxView)
    → words_of words ≡ option_words line → text ≡ query_text line → tokens ≡ tokens_of text
    → auto ≡ is_auto (option_value (codes "auto") (words_of words)) → lang ≡ option_value (codes "lang") (words_of words) → bounds ≡ option_and_then box_of (option_value (codes "box") (words_of words))
    → options_fit (words_of words) ≡ true → box_fits (option_value (codes "box") (words_of words)) ≡ true
    → length (chars text) ≤ 256 → 1 ≤ length tokens → length tokens ≤ 20
    → query_of line ≡ Ok (record { tokens = tokens; auto = auto; lang = lang; bounds = bounds })
accepted line words text tokens auto lang bounds words_are text_is tokens_are auto_is lang_is bounds_are fit box short some few =
    rw (auto_is, lang_is, bounds_are, words_are, tokens_are, text_is)
    (without_fault line (rw words_are at fit) (rw words_are at box) (rw text_is at short) (rw (tokens_are, text_is) at some) (rw (tokens_are, text_is) at few))
