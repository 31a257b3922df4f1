use Rattle.std.proofs.Common.{rules, ◌≡◌, ◌<◌, ◌∙◌, [], ◌∷◌, ◌++◌, ap, arith, subst, length, List}
use Rattle.geo_base.specs.declared.job.Piece.{Piece}
use Rattle.stackable.specs.declared.roots.Root.{Root}
use Rattle.stackable.specs.Partial.{bound}
use Rattle.stackable.specs.RootOrder.{root_of}
use Rattle.stackable.proofs.FewPieces.{few_pieces}
use Rattle.stackable.proofs.Numbers.{lone_partial, map_more_number}
use Rattle.stackable.proofs.roots.bounds_of.Goals as goal

pub overflow_cast-piece : goal.overflow_cast-piece
overflow_cast-piece c =
    let inside : c.loop-k.k < length c.args.job.now.pieces = subst (λ (xs : List Piece). c.loop-k.k < length xs) c.as_slice-pieces.ensures c.loop-k-test.true in
    let small : c.loop-k.k < 65536 = omega (arith, inside, few_pieces c.args.job.now c.requires) in
    omega (arith, small)

pub bound-bound-requires-clause-partial : goal.bound-bound-requires-clause-partial
bound-bound-requires-clause-partial c = rw c.new.ensures (lone_partial c.args.job.now c.loop-k.k (subst (λ (xs : List Piece). c.loop-k.k < length xs) c.as_slice-pieces.ensures c.loop-k-test.true))

pub loop-k-preserved : goal.loop-k-preserved
loop-k-preserved c =
    let root : Root = record { bound = c.bound-bound.result; piece = c.loop-k.k } in
    let pushed : c.push.new.self.items ≡ c.loop-k.list.items ++ root ∷ [] = search rules in
    let value : root ≡ root_of c.args.job.now c.loop-k.k = ap (λ b. record { bound = b; piece = c.loop-k.k }) (c.bound-bound.ensures ∙ ap (λ p. bound c.args.job.now p) c.new.ensures) in
    pushed ∙ (ap (λ r. c.loop-k.list.items ++ r ∷ []) value ∙ map_more_number (root_of c.args.job.now) c.loop-k.k c.loop-k.list.items c.loop-k.invariant)
