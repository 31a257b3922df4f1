use Rattle.std.proofs.Common.{◌≡◌, ℕ, ◌+◌, ◌<◌, List, length, sym, ap, subst, arith}
use Rattle.std.specs.Prelude.{sum_by}
use Rattle.std.proofs.lemmas.List.Sums.{sum_by_push}
use Rattle.geo_base.specs.declared.job.Piece.{Piece}
use Rattle.geo_base.specs.Job.{IsPieceOf}
use Rattle.stackable.specs.Partial.{piece_at}
use Rattle.stackable.specs.Room.{IsRoom}
use Rattle.stackable.proofs.FewPieces.{few_pieces}
use Rattle.stackable.proofs.Numbers.{added_inside}
use Rattle.stackable.proofs.RoomFacts.{piece_is, room_child}
use Rattle.stackable.proofs.bounded.child.Goals as goal

pub piece-piece-requires : goal.piece-piece-requires
piece-piece-requires c = added_inside c.args.job.now c.args.p.now c.args.candidate c.requires.partial

pub below-below-requires : goal.below-below-requires
below-below-requires c =
    subst (IsPieceOf 20) (sym c.piece-piece.ensures) (piece_is c.args.job.now c.args.candidate c.requires.job (added_inside c.args.job.now c.args.p.now c.args.candidate c.requires.partial))

pub overflow_cast-number : goal.overflow_cast-number
overflow_cast-number c =
    let inside : c.args.candidate < length c.args.job.now.pieces = added_inside c.args.job.now c.args.p.now c.args.candidate c.requires.partial in
    let small : c.args.candidate < 65536 = omega (arith, inside, few_pieces c.args.job.now c.requires.job) in
    omega (arith, small)

pub bound_in-bound-requires-clause-room : goal.bound_in-bound-requires-clause-room
bound_in-bound-requires-clause-room c =
    subst (λ (xs : List ℕ). IsRoom c.args.job.now xs c.below-below.result.taken c.below-below.result.layers) (sym c.push.ensures)
    (room_child c.args.job.now c.args.p.now c.args.candidate c.args.room.now.taken c.args.room.now.layers c.below-below.result.taken c.below-below.result.layers c.piece-piece.result c.requires.job c.requires.room
    (added_inside c.args.job.now c.args.p.now c.args.candidate c.requires.partial) c.piece-piece.ensures c.below-below.ensures.taken c.below-below.ensures.layers)

pub bound_in-bound-requires-clause-sum : goal.bound_in-bound-requires-clause-sum
bound_in-bound-requires-clause-sum c =
    let one : c.piece-piece.result.top_value ≡ (piece_at c.args.job.now c.args.candidate).top_value = ap (λ (q : Piece). q.top_value) c.piece-piece.ensures in
    let all = sum_by_push (λ k. (piece_at c.args.job.now k).top_value) c.args.p.now c.args.candidate in
    subst (λ (xs : List ℕ). c.args.sum + c.piece-piece.result.top_value ≡ sum_by (λ k. (piece_at c.args.job.now k).top_value) xs) (sym c.push.ensures) (omega (arith, one, all, c.requires.sum))
