use Rattle.std.proofs.Common.{ap, ◌++◌, codes}
use Rattle.session_text.proofs.Fronts.{joins}
use Rattle.session_text.proofs.write.write_unreadable.Goals as goal

pub returns-clause-ok : goal.returns-clause-ok
returns-clause-ok c =
    joins _ _ _ _ _ _ c.in_ok-push_both.ensures.ok c.in_ok-push.ensures.ok (ap (λ name. codes "unreadable " ++ name ++ codes "\n") c.fault_text.ensures)
