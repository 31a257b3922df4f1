use Rattle.std.proofs.Common.{◌++◌}
use Rattle.session_text.specs.Reading.{lines_of}
use Rattle.session_text.proofs.Bodies.{reading_head}
use Rattle.session_text.proofs.laws.head_stays_in_the_body.Goals as goal

pub returns : goal.returns
returns c = λ session n begun ended more stage. reading_head session n (lines_of ended (begun ++ more)) stage
