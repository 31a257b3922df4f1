use Rattle.stackable.proofs.OpenFacts.{open_count}
use Rattle.stackable.proofs.tree.count_open.Goals as goal

pub returns-clause-value : goal.returns-clause-value
returns-clause-value c = open_count c.args.job.now c.args.p.now c.open_bits.result c.open_bits.ensures.bits c.open_bits.ensures.few
