use Rattle.std.proofs.Common.{◌∙◌, ◌+◌, ℕ, ◌==◌, ◌∷◌, sym, ap, take, List}
use Rattle.std.specs.List.{slice_split}
use Rattle.geo_text.proofs.SplitParts.{cut_some, cut_none, rest_is}
use Rattle.geo_text.proofs.cut.cut.Goals as goal

pub returns-in-Some-clause-parts : goal.returns-in-Some-clause-parts
returns-in-Some-clause-parts c =
    cut_some (λ b. b == c.args.mark) c.args.text.now c.in-Some.at (sym c.place_of.ensures ∙ c.in-Some.is)
    ∙ ap (λ (l : List ℕ). take c.in-Some.at c.args.text.now ∷ slice_split (λ b. b == c.args.mark) l) (sym (rest_is (c.in-Some.at + 1) c.args.text.now))

pub returns-in-None-clause-parts : goal.returns-in-None-clause-parts
returns-in-None-clause-parts c = cut_none (λ b. b == c.args.mark) c.args.text.now (sym c.place_of.ensures ∙ c.in-None.is)
