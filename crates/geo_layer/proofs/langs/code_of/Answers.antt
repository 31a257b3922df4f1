use Rattle.geo_layer.proofs.CodeFacts.{no_code}
use Rattle.geo_layer.proofs.langs.code_of.Goals as goal

pub returns-in_err-ascii : goal.returns-in_err-ascii
returns-in_err-ascii c = rw c.from_residual.ensures (no_code c.args.word.now c.in_err-ascii.ensures)
