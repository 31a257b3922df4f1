use Rattle.plain_answer.proofs.EntryFacts.{layer_differs}
use Rattle.plain_answer.proofs.laws.entries_differ.Goals as goal

pub returns : goal.returns
returns c table k rises features = layer_differs table k rises features
