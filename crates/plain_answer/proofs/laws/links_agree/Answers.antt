use Rattle.plain_answer.proofs.Agreeing.{agree}
use Rattle.plain_answer.proofs.laws.links_agree.Goals as goal

pub returns : goal.returns
returns c head table q rises of_head = agree head table q rises of_head
