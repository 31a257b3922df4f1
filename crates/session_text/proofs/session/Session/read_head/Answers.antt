use Rattle.std.proofs.Common.{rules}
use Rattle.session_text.proofs.session.Session.read_head.Goals as goal

pub returns-then-eq-2-clause-fits : goal.returns-then-eq-2-clause-fits
returns-then-eq-2-clause-fits c = c.read_layer_line.ensures.fits c.args.self.now (search rules)
