use Rattle.std.proofs.Common.{arith}
use Rattle.grid_row.proofs.ListSteps.{less_left}
use Rattle.grid_row.proofs.reading.front_of.Goals as goal

pub overflow_sub-result : goal.overflow_sub-result
overflow_sub-result c =
    let less = less_left c.args.bytes.now c.in_ok-found.found c.in_ok-found.rest.now (λ i. omega (arith, c.type_inv.bytes i)) c.in_ok-found.ensures.gives in
    omega arith
