use Rattle.std.proofs.Common.{rules}
use Rattle.std.specs.Ordering.{is_lt}
use Rattle.std.proofs.lemmas.List.Sorted.{ranks_by, answers_always}
use Rattle.stackable.specs.RootOrder.{by_bound}
use Rattle.stackable.proofs.RootFacts.{by_bound_total}
use Rattle.stackable.proofs.roots.put_in_order.Goals as goal

pub returns-clause-sorted : goal.returns-clause-sorted
returns-clause-sorted c = c.sort_unstable_by.ensures.sorted (λ a b. is_lt (by_bound a b)) (ranks_by by_bound_total (λ x. x)) (answers_always _ _ _ (λ f a r g h. search rules))
