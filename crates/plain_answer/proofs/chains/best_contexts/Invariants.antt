use Rattle.std.proofs.Common.{◌≡◌, ◌≤◌, ◌∷◌, [], take, filter}
use Rattle.std.specs.Prelude.{flat_map}
use Rattle.geo_base.specs.Best.{best_of}
use Rattle.geo_base.specs.Job.{compat_of}
use Rattle.geo_base.specs.Link.{stacks}
use Rattle.geo_base.specs.Order.{context_cmp, same_target}
use Rattle.plain_answer.specs.Offered.{with_more}
use Rattle.plain_answer.proofs.chains.best_contexts.Given as goal

-- the contexts whose target is one of the links so far
abbrev pub invariant-loop-i : goal.invariant-loop-i
invariant-loop-i l = record {
  end : l.end ≤ l.i;
  offered : l.top ≡ best_of context_cmp same_target 40 (flat_map (λ a. with_more (compat_of l.stacks) 15 (a ∷ []) (filter (stacks (compat_of l.stacks) a) l.links)) (take l.i l.links));
}
