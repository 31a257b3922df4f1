use Rattle.feature_reader.proofs.OwnTexts.{other_name}
use Rattle.feature_reader.proofs.own_texts.text_code.Goals as goal

pub returns-in-None : goal.returns-in-None
returns-in-None c = other_name c.args.name.now c.in-None.ensures.cases
