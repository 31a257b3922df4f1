use Rattle.std.proofs.Common.{◌∙◌, ◌==◌, sym}
use Rattle.geo_text.proofs.FirstPlace.{found, missing}
use Rattle.geo_text.proofs.cut.text_after.Goals as goal

pub returns-in-Some : goal.returns-in-Some
returns-in-Some c =
    let first = found (λ b. b == c.args.mark) c.args.text.now c.in-Some.at (sym c.place_in.ensures.value ∙ c.in-Some.is) in
    rw (first.0, first.1) c.range_from.ensures.value

pub returns-in-None : goal.returns-in-None
returns-in-None c = rw (missing (λ b. b == c.args.mark) c.args.text.now (sym c.place_in.ensures.value ∙ c.in-None.is))
