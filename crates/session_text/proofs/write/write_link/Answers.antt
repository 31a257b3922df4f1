use Rattle.session_text.proofs.Fronts.{link_joins}
use Rattle.session_text.proofs.write.write_link.Goals as goal

pub returns-clause-ok : goal.returns-clause-ok
returns-clause-ok c =
    link_joins c.args.link.now _ _ _ _ _ _ _ _ _ _ _ _ c.from.ensures c.from-2.ensures c.from-3.ensures c.from-4.ensures c.from-5.ensures
    c.in_ok-push_number.ensures.ok c.in_ok-push_number-2.ensures.ok c.in_ok-write_tile.ensures.ok c.in_ok-push_number-3.ensures.ok c.in_ok-push_number-4.ensures.ok c.in_ok-push_number-5.ensures.ok
