use Rattle.std.proofs.Common.{sym, subst, length, ◌<◌, get_or, List, ℕ}
use Rattle.stackable.proofs.Numbers.{piece_inside}
use Rattle.stackable.proofs.tree.top_values.Goals as goal

pub piece-requires : goal.piece-requires
piece-requires c =
    subst (λ (xs : List ℕ). get_or xs c.loop-k.k-index 0 < length c.args.job.now.pieces) (sym c.pieces-k-items.ensures.value)
    (piece_inside c.args.job.now c.args.p.now c.loop-k.k-index c.requires.partial (subst (λ (xs : List ℕ). c.loop-k.k-index < length xs) c.pieces-k-items.ensures.value c.loop-k-test.true))
