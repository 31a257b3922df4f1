use Rattle.std.proofs.Common.{◌∙◌, ◌++◌, codes, decimal, ap}
use Rattle.session_text.proofs.Fronts.{pairs_join}
use Rattle.session_text.proofs.write.push_unfinished.Goals as goal

pub returns-clause-ok : goal.returns-clause-ok
returns-clause-ok c =
    pairs_join c.args.out.now.items _ _ _ (codes "replay gen ") (decimal c.args.generation) (codes " unfinished ") (decimal c.args.root) (codes "\n")
    (c.in_ok-push_number.ensures.ok ∙ ap (λ n. c.args.out.now.items ++ (codes "replay gen " ++ decimal n)) c.from.ensures)
    (c.in_ok-push_number-2.ensures.ok ∙ ap (λ n. c.push_number.new.out.items ++ (codes " unfinished " ++ decimal n)) c.from-2.ensures)
    c.in_ok-push.ensures.ok
