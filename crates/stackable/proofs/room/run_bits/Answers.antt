use Rattle.stackable.proofs.RoomFacts.{no_less, twenty}
use Rattle.stackable.proofs.room.run_bits.Goals as goal

pub overflow_sub-result : goal.overflow_sub-result
overflow_sub-result c = no_less c.args.p.now.from c.args.p.now.to c.requires.some c.requires.within

pub returns-clause-few : goal.returns-clause-few
returns-clause-few c = twenty c.args.p.now.from c.args.p.now.to c.requires.some c.requires.within
