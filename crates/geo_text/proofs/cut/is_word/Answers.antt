use Rattle.std.proofs.Common.{◌≡◌, ◌∙◌, ◌<◌, length, arith, sym, ap, not}
use Rattle.std.proofs.lemmas.Bool.{not-true}
use Rattle.std.proofs.lemmas.Bool.Decides.{nat_tests}
use Rattle.geo_text.proofs.WordFacts.{word_is, no_space_found}
use Rattle.geo_text.proofs.cut.is_word.Goals as goal

pub returns-then-is_empty : goal.returns-then-is_empty
returns-then-is_empty c =
    let none : length c.args.text.now ≡ 0 = grind (arith, nat_tests) in
    (λ e. absurd (cc e), λ word. let some : 0 < length c.args.text.now = word.some in absurd (omega (arith, none, some)))

pub returns : goal.returns
returns c =
    let some : 0 < length c.args.text.now = grind (arith, nat_tests) in (
      λ e. word_is c.args.text.now some (sym c.contains.ensures.value ∙ not-true _ e),
      λ word. ap not (c.contains.ensures.value ∙ no_space_found c.args.text.now word),
    )
