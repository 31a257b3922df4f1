use Rattle.session_text.proofs.Named.{named_once, named_lent}
use Rattle.session_text.proofs.laws.feeds_are_named_once.Goals as goal

pub returns : goal.returns
returns c = record { once = named_once; lent = named_lent }
