use Rattle.std.proofs.Common.{ℕ, ◌<◌, length, get_or, List, sym, subst}
use Rattle.geo_base.specs.Job.{IsPieceOf}
use Rattle.stackable.proofs.Numbers.{piece_inside}
use Rattle.stackable.proofs.RoomFacts.{piece_is, whole_admits, room_more}
use Rattle.stackable.proofs.room.Room.of.Goals as goal

pub loop-k-init : goal.loop-k-init
loop-k-init c = λ k inside. whole_admits c.args.job.now c.whole-room.result.taken c.whole-room.result.layers k c.requires.job c.whole-room.ensures.taken c.whole-room.ensures.layers inside

pub piece-piece-requires : goal.piece-piece-requires
piece-piece-requires c =
    subst (λ (xs : List ℕ). get_or xs c.loop-k.k-index 0 < length c.args.job.now.pieces) (sym c.pieces-k-items.ensures.value)
    (piece_inside c.args.job.now c.args.p.now c.loop-k.k-index c.requires.partial (subst (λ (xs : List ℕ). c.loop-k.k-index < length xs) c.pieces-k-items.ensures.value c.loop-k-test.true))

pub below-room-requires : goal.below-room-requires
below-room-requires c =
    let inside : get_or c.pieces-k-items.result.now c.loop-k.k-index 0 < length c.args.job.now.pieces =
    subst (λ (xs : List ℕ). get_or xs c.loop-k.k-index 0 < length c.args.job.now.pieces) (sym c.pieces-k-items.ensures.value)
    (piece_inside c.args.job.now c.args.p.now c.loop-k.k-index c.requires.partial (subst (λ (xs : List ℕ). c.loop-k.k-index < length xs) c.pieces-k-items.ensures.value c.loop-k-test.true)) in
    subst (IsPieceOf 20) (sym c.piece-piece.ensures) (piece_is c.args.job.now (get_or c.pieces-k-items.result.now c.loop-k.k-index 0) c.requires.job inside)

pub loop-k-preserved : goal.loop-k-preserved
loop-k-preserved c =
    let inside : get_or c.pieces-k-items.result.now c.loop-k.k-index 0 < length c.args.job.now.pieces =
    subst (λ (xs : List ℕ). get_or xs c.loop-k.k-index 0 < length c.args.job.now.pieces) (sym c.pieces-k-items.ensures.value)
    (piece_inside c.args.job.now c.args.p.now c.loop-k.k-index c.requires.partial (subst (λ (xs : List ℕ). c.loop-k.k-index < length xs) c.pieces-k-items.ensures.value c.loop-k-test.true)) in
    room_more c.args.job.now c.pieces-k-items.result.now c.loop-k.k-index c.loop-k.room.taken c.loop-k.room.layers c.below-room.result.taken c.below-room.result.layers c.piece-piece.result
    c.requires.job c.loop-k.invariant c.loop-k-test.true inside c.piece-piece.ensures c.below-room.ensures.taken c.below-room.ensures.layers
