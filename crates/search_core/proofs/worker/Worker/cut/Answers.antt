use Rattle.std.proofs.Common.{◌≡◌, All, subst, arith}
use Rattle.stackable.specs.Bounded.{IsBounded}
use Rattle.search_core.proofs.HandFacts.{in_hand, stack_some, front_of, cuts_top}
use Rattle.search_core.proofs.worker.Worker.cut.Goals as goal

pub take_last-top-requires : goal.take_last-top-requires
take_last-top-requires c =
    let view : in_hand c.self.inside.job.value c.self.inside.stack.items c.self.inside.seen c.self.inside.top ≡ c.args.self.now = c.self.view_is in
    omega (arith, stack_some c.self.inside.job.value c.self.inside.stack.items c.self.inside.seen c.self.inside.top c.args.self.now view c.requires, c.self.inside.stack.ok)

pub invariant_of-self : goal.invariant_of-self
invariant_of-self c = (
  omega (arith, c.self.invariant.0, c.take_last-top.ensures.capacity),
  c.self.invariant.1,
  front_of (IsBounded c.self.inside.job.value) c.take_last-top.new.self.items _ (subst (All (IsBounded c.self.inside.job.value)) c.take_last-top.ensures.items c.self.invariant.2),
)

pub returns-clause-gone : goal.returns-clause-gone
returns-clause-gone c =
    let view : in_hand c.self.inside.job.value c.self.inside.stack.items c.self.inside.seen c.self.inside.top ≡ c.args.self.now = c.self.view_is in
    cuts_top c.self.inside.job.value c.self.inside.stack.items c.self.inside.seen c.self.inside.top c.args.self.now view c.take_last-top.new.self.items c.take_last-top.result c.take_last-top.ensures.items
