use Rattle.std.proofs.Common.{◌∙◌, ◌≡◌, ◌∷◌, ◌++◌, ◌<◌, length, true, sym, ap, arith, bytes_eq}
use Rattle.std.proofs.lemmas.Bool.Decides.{nat_tests}
use Rattle.std.specs.List.{list_any}
use Rattle.geo_base.specs.LangCode.{is_code}
use Rattle.geo_text.specs.Words.{words_of}
use Rattle.geo_layer.specs.Langs.{are_langs}
use Rattle.geo_layer.proofs.CodeFacts.{twice, one_code, few_codes}
use Rattle.geo_layer.proofs.langs.codes_of.Goals as goal

pub returns-then-has : goal.returns-then-has
returns-then-has c =
    let words : words_of c.args.text.now ≡ c.loop-word.langs ++ c.in-Some.word.now ∷ words_of c.in-Some.after.now = c.loop-word.invariant ∙ ap (λ ws. c.loop-word.langs ++ ws) c.in-Some.ensures.words in
    ap are_langs words ∙ twice c.loop-word.langs c.in-Some.word.now (words_of c.in-Some.after.now) (c.if-has.ensures ∙ ap (λ w. list_any (bytes_eq w) c.loop-word.langs) c.in-Some-code_of.ensures.1)

pub push-requires : goal.push-requires
push-requires c =
    let low = few_codes c.loop-word.langs c.len.ensures.are in
    let few : length c.loop-word.langs < 127 = grind (arith, nat_tests) in
    let is : is_code c.in-Some-code_of.code ≡ true = ap is_code c.in-Some-code_of.ensures.1 ∙ c.in-Some-code_of.ensures.0 in
    one_code c.loop-word.langs c.in-Some-code_of.code c.len.ensures.are few is (sym c.if-has.ensures)
