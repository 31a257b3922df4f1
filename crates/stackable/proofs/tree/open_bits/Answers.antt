use Rattle.std.proofs.Common.{◌≡◌, ◌<◌, length, take, arith, refl}
use Rattle.stackable.proofs.OpenFacts.{open_more, open_all, front_long, at_front}
use Rattle.stackable.proofs.tree.open_bits.Goals as goal

pub loop-q-preserved : goal.loop-q-preserved
loop-q-preserved c =
    let job = c.args.job.now in
    let pieces = c.as_slice.result.now in
    let last = c.last_piece.result in
    let i = c.loop-q.q-index in
    let long : length (take last pieces) ≡ last = front_long job pieces last i c.as_slice.ensures c.last_piece.ensures.inside in
    let inside : i < length job.pieces = omega (arith, c.loop-q-test.true, long, c.last_piece.ensures.inside) in
    open_more job c.args.p.now c.args.room.now.taken c.args.room.now.layers c.loop-q.tokens _ i c.tokens_of-tokens.result _ c.requires.job c.requires.room inside
    (at_front job pieces last i c.as_slice.ensures c.last_piece.ensures.inside _ c.loop-q-test.true) c.tokens_of-tokens.ensures refl c.loop-q.invariant

pub returns-clause-bits : goal.returns-clause-bits
returns-clause-bits c =
    let job = c.args.job.now in
    let pieces = c.as_slice.result.now in
    let last = c.last_piece.result in
    let long : length (take last pieces) ≡ last = front_long job pieces last c.loop-q.q-index c.as_slice.ensures c.last_piece.ensures.inside in
    let over : c.loop-q.q-index ≡ last = omega (arith, c.loop-q-test.false, c.loop-q.auto.q-index-end, long) in
    open_all job c.args.p.now c.loop-q.tokens last c.loop-q.q-index over c.last_piece.ensures.before c.loop-q.invariant.0
