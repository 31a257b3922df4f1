use Rattle.std.proofs.Common.{◌≡◌, ◌∙◌, ◌<◌, [], List, ℕ, length, sym, ap, arith}
use Rattle.std.proofs.lemmas.Bool.Decides.{nat_tests}
use Rattle.std.proofs.lemmas.List.{nil_from_length}
use Rattle.geo_text.specs.Words.{words_of}
use Rattle.geo_text.proofs.WordFacts.{words_skipped, next_word_is, after_shorter, first_is_word}
use Rattle.geo_text.proofs.cut.next_word.Goals as goal

-- no byte is left
empty : (rest : List ℕ) → length rest ≡ 0 → words_of rest ≡ []
empty rest none = ap words_of (nil_from_length rest none)

pub returns-then-is_empty-clause-words : goal.returns-then-is_empty-clause-words
returns-then-is_empty-clause-words c =
    let none : length c.skip_spaces-text.result.now ≡ 0 = grind (arith, nat_tests) in
    words_skipped c.args.text.now ∙ (ap words_of (sym c.skip_spaces-text.ensures) ∙ empty _ none)

pub returns-clause-words : goal.returns-clause-words
returns-clause-words c =
    let some : 0 < length c.skip_spaces-text.result.now = grind (arith, nat_tests) in
    rw (c.first_word.ensures, c.after_word.ensures, c.skip_spaces-text.ensures) (next_word_is c.args.text.now (rw c.skip_spaces-text.ensures at some))

pub returns-clause-shorter : goal.returns-clause-shorter
returns-clause-shorter c =
    let some : 0 < length c.skip_spaces-text.result.now = grind (arith, nat_tests) in
    rw (c.after_word.ensures, c.skip_spaces-text.ensures) (after_shorter c.args.text.now (rw c.skip_spaces-text.ensures at some))

pub returns-clause-word : goal.returns-clause-word
returns-clause-word c =
    let some : 0 < length c.skip_spaces-text.result.now = grind (arith, nat_tests) in
    rw (c.first_word.ensures, c.skip_spaces-text.ensures) (first_is_word c.args.text.now (rw c.skip_spaces-text.ensures at some))
