use Rattle.std.proofs.Common.{rules, ◌≡◌, ◌<◌, ◌-◌, [], ◌∷◌, ◌++◌, length, map, reverse, refl, sym, ◌∙◌, ap, arith}
use Rattle.std.proofs.lemmas.List.{take_all}
use Rattle.stackable.specs.Partial.{children}
use Rattle.stackable.specs.Bounded.{with_bound}
use Rattle.stackable.proofs.Numbers.{makes_partial}
use Rattle.stackable.proofs.ChildFacts.{all_below, put, left_out, front_stays}
use Rattle.stackable.proofs.bounded.push_children.Goals as goal

pub loop-k-init : goal.loop-k-init
loop-k-init c = record {
  inside = omega (arith, c.last_piece-k.ensures.inside);
  put = ap (λ bs. c.args.list.now.items ++ reverse bs) (all_below c.args.job.now c.args.p.now c.last_piece-k.result c.last_piece-k.ensures.before);
  front = take_all (length c.args.list.now.items) c.args.list.now.items (omega arith);
  capacity = omega arith;
}

pub child-requires-clause-partial : goal.child-requires-clause-partial
child-requires-clause-partial c =
    let inside : c.loop-k.k - 1 < length c.args.job.now.pieces = omega (arith, c.loop-k-test.true, c.loop-k.invariant.inside) in
    makes_partial c.args.job.now c.args.p.now (c.loop-k.k - 1) c.requires.job c.requires.partial inside (sym c.is_candidate.ensures ∙ c.if-is_candidate.true)

pub loop-k-preserved-else-is_err : goal.loop-k-preserved-else-is_err
loop-k-preserved-else-is_err c =
    let pushed : c.push.new.self.items ≡ c.loop-k.list.items ++ c.child.result ∷ [] = search rules in
    record {
      inside = omega (arith, c.loop-k.invariant.inside);
      put = put c.args.job.now c.args.p.now c.loop-k.k (c.loop-k.k - 1) c.loop-k.list.items c.push.new.self.items (c.args.list.now.items ++ reverse (map (with_bound c.args.job.now) (children c.args.job.now c.args.p.now))) c.loop-k-test.true refl (sym c.is_candidate.ensures ∙ c.if-is_candidate.true)
          (pushed ∙ ap (λ b. c.loop-k.list.items ++ b ∷ []) c.child.ensures) c.loop-k.invariant.put;
      front = front_stays c.args.list.now.items c.loop-k.list.items c.push.new.self.items c.child.result c.loop-k.invariant.front pushed;
      capacity = omega (arith, c.loop-k.invariant.capacity, c.push.ensures.capacity);
    }

pub loop-k-preserved : goal.loop-k-preserved
loop-k-preserved c = record {
  inside = omega (arith, c.loop-k.invariant.inside);
  put = left_out c.args.job.now c.args.p.now c.loop-k.k (c.loop-k.k - 1) c.loop-k.list.items (c.args.list.now.items ++ reverse (map (with_bound c.args.job.now) (children c.args.job.now c.args.p.now))) c.loop-k-test.true refl (sym c.is_candidate.ensures ∙ c.if-is_candidate.false) c.loop-k.invariant.put;
  front = c.loop-k.invariant.front;
  capacity = c.loop-k.invariant.capacity;
}
