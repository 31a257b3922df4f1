use Rattle.std.proofs.Common.{◌∙◌, None, sym, arith}
use Rattle.std.proofs.lemmas.Str.Pattern.{strip_prefix_char}
use Rattle.geo_text.proofs.WordFacts.{none_skipped}
use Rattle.geo_text.proofs.cut.skip_spaces_of.Goals as goal

pub returns : goal.returns
returns c =
    none_skipped c.loop-more.rest.now (strip_prefix_char 32 c.loop-more.rest.now None c.in_default.ensures.cases (omega arith))
    ∙ sym c.loop-more.invariant.1
