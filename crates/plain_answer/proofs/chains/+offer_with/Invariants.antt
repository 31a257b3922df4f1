use Rattle.std.proofs.Common.{◌≡◌, ◌-◌, ◌++◌, ◌∷◌, [], length, take, filter}
use Rattle.std.specs.Prelude.{flat_map}
use Rattle.geo_base.specs.Best.{best_of}
use Rattle.geo_base.specs.Job.{compat_of}
use Rattle.geo_base.specs.Link.{stacks}
use Rattle.geo_base.specs.Order.{context_cmp, same_target}
use Rattle.plain_answer.specs.Offered.{with_more}
use Rattle.plain_answer.proofs.chains.+offer_with.Given as goal

-- the links that may still be added
abbrev pub decreases-offer_with : goal.decreases-offer_with
decreases-offer_with l = 16 - length l.context.now

-- the context and all that go on from it by one of the links so far
abbrev pub invariant-loop-link : goal.invariant-loop-link
invariant-loop-link l = l.top ≡ best_of context_cmp same_target 40 ((l.fn.top ++ l.context ∷ []) ++ flat_map (λ a. with_more (compat_of l.stacks) (15 - length l.context) (l.context ++ a ∷ []) (filter (stacks (compat_of l.stacks) a) l.below)) (take l.link-index l.below))
