use Rattle.plain_answer.proofs.CountFacts.{count_is_product}
use Rattle.plain_answer.proofs.laws.count_is_a_product.Goals as goal

pub returns : goal.returns
returns c head table q rises features = count_is_product head table q rises features
