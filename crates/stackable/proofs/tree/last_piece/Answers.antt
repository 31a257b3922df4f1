use Rattle.std.proofs.Common.{ℕ, ◌-◌, List, length, get_or, ap}
use Rattle.stackable.proofs.OpenFacts.{last_inside, before_last}
use Rattle.stackable.proofs.tree.last_piece.Goals as goal

pub returns-clause-inside : goal.returns-clause-inside
returns-clause-inside c = last_inside c.args.job.now c.requires.job c.args.p.now c.requires.partial (get_or c.pieces-pieces.result.now (length c.pieces-pieces.result.now - 1) 0) (ap (λ (xs : List ℕ). get_or xs (length xs - 1) 0) c.pieces-pieces.ensures.value)

pub returns-clause-before : goal.returns-clause-before
returns-clause-before c = before_last c.args.job.now c.requires.job c.args.p.now c.requires.partial (get_or c.pieces-pieces.result.now (length c.pieces-pieces.result.now - 1) 0) (ap (λ (xs : List ℕ). get_or xs (length xs - 1) 0) c.pieces-pieces.ensures.value)
