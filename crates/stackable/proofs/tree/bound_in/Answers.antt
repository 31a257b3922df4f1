use Rattle.std.proofs.Common.{sym, subst, length, ◌<◌, get_or, List, ℕ}
use Rattle.stackable.proofs.Numbers.{piece_inside}
use Rattle.stackable.proofs.tree.bound_in.Goals as goal

pub piece-root-requires : goal.piece-root-requires
piece-root-requires c =
    subst (λ (xs : List ℕ). get_or xs 0 0 < length c.args.job.now.pieces) (sym c.pieces.ensures.value)
    (piece_inside c.args.job.now c.args.p.now 0 c.requires.partial c.requires.partial.some)
