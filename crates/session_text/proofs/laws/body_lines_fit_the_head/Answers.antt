use Rattle.session_text.proofs.Bodies.{fits_head}
use Rattle.session_text.proofs.laws.body_lines_fit_the_head.Goals as goal

pub returns : goal.returns
returns c = fits_head
