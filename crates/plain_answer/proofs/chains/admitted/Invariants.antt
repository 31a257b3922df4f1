use Rattle.std.proofs.Common.{◌≡◌, take, filter}
use Rattle.geo_base.specs.Job.{compat_of}
use Rattle.geo_base.specs.Link.{stacks}
use Rattle.plain_answer.proofs.chains.admitted.Given as goal

-- those so far
abbrev pub invariant-loop-other : goal.invariant-loop-other
invariant-loop-other l = l.below.items ≡ filter (stacks (compat_of l.stacks) l.link) (take l.other-index l.links)
