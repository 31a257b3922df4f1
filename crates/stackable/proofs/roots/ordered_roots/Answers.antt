use Rattle.stackable.proofs.RootFacts.{sorted_roots, sorted_bounds}
use Rattle.stackable.proofs.roots.ordered_roots.Goals as goal

pub returns-clause-pieces : goal.returns-clause-pieces
returns-clause-pieces c = sorted_roots c.args.job.now c.requires c.in_ok-order.order.items c.put_in_order.new.list.items c.in_ok-order.ensures c.put_in_order.ensures.permutation c.put_in_order.ensures.sorted

pub returns-clause-bounds : goal.returns-clause-bounds
returns-clause-bounds c = sorted_bounds c.args.job.now c.requires c.in_ok-order.order.items c.put_in_order.new.list.items c.in_ok-order.ensures c.put_in_order.ensures.permutation c.put_in_order.ensures.sorted
