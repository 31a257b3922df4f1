use Rattle.plain_answer.proofs.Begins.{begins, begins_not, match_both}
use Rattle.std.proofs.Common.{◌∙◌, ◌++◌, sym, ap}
use Rattle.plain_answer.proofs.matching.after.Goals as goal

pub returns : goal.returns
returns c =
    match_both c.strip_prefix.result c.strip_prefix.ensures.cases
    (begins_not c.args.text.now c.args.front.now)
    (λ x h. begins c.args.text.now c.args.front.now h.0 ∙ ap (λ l. c.args.front.now ++ l) (sym h.1))
