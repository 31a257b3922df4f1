use Rattle.std.proofs.Common.{rules}
use Rattle.std.proofs.lemmas.Iterator.Adapters.{items_from_extend}
use Rattle.unicode_normalization.proofs.IterLemmas.{Spells-slice}
use Rattle.std.proofs.iter.Yields.{fronts, copies}
use Rattle.caseless.specs.CaseFold.{CaseFoldSteps}
use Rattle.caseless.proofs.CaselessLemmas.{Spells-CaseFold}
use Rattle.geo_text.proofs.normalizer.fold_case.Goals as goal

pub returns : goal.returns
returns c =
    let folded = c.default_case_fold.ensures.text c.args.from.now (Spells-slice _ c.args.from.now (cc)) in
    let all = items_from_extend {steps = CaseFoldSteps (copies fronts)} c.extend.result c.extend.ensures.ran (record { runs = Spells-CaseFold folded }) in
    search rules
