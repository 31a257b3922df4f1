use Rattle.std.proofs.Common.{◌≡◌, ◌∙◌, ◌+◌, ◌-◌, ℕ, ◌==◌, ◌∷◌, refl, sym, ap, take, drop, arith}
use Rattle.std.specs.List.{slice_split}
use Rattle.geo_text.proofs.SplitParts.{cut_some, cut_none}
use Rattle.geo_text.proofs.cut.cut_text.Goals as goal

pub returns-in-Some-clause-parts : goal.returns-in-Some-clause-parts
returns-in-Some-clause-parts c =
    let same : c.in-Some.at ≡ c.in-Some.at - 0 = omega arith in
    cut_some (λ b. b == c.args.mark) c.args.text.now c.in-Some.at (sym c.place_in.ensures.value ∙ c.in-Some.is)
    ∙ ap (λ (n : ℕ). take n c.args.text.now ∷ slice_split (λ b. b == c.args.mark) (drop (c.in-Some.at + 1) c.args.text.now)) same
    ∙ rw (c.range.ensures.value, c.range_from.ensures.value) refl

pub returns-in-None-clause-parts : goal.returns-in-None-clause-parts
returns-in-None-clause-parts c = cut_none (λ b. b == c.args.mark) c.args.text.now (sym c.place_in.ensures.value ∙ c.in-None.is)
