use Rattle.std.proofs.Common.{◌≡◌, ◌++◌, ◌∙◌, ap, map, reverse}
use Rattle.stackable.specs.Bounded.{with_bound}
use Rattle.stackable.specs.Partial.{survivors}
use Rattle.search_core.specs.Machine.{children_of}
use Rattle.top_list.specs.Merged.{merged}
use Rattle.search_core.proofs.KeptFacts.{found_is}
use Rattle.search_core.proofs.worker.open_partial.Goals as goal

pub returns-clause-pushed : goal.returns-clause-pushed
returns-clause-pushed g c =
    let job = c.args.job.now in
    let cells = g.R.Rows.cells c.args.rows.now in
    let found : c.found-found.result.now ≡ survivors job cells c.args.partial.now = found_is job cells c.reach.new.self c.args.partial.now c.found-found.result.now c.reach.ensures.kept c.in_ok-reach.ensures.reached c.found-found.ensures in
    c.in_ok-push_below.ensures.ok ∙ ap (λ fs. c.args.stack.now.items ++ reverse (map (with_bound job) (children_of job fs c.args.partial.now))) found

pub returns-clause-offered : goal.returns-clause-offered
returns-clause-offered g c =
    let job = c.args.job.now in
    let cells = g.R.Rows.cells c.args.rows.now in
    let found : c.found-found.result.now ≡ survivors job cells c.args.partial.now = found_is job cells c.reach.new.self c.args.partial.now c.found-found.result.now c.reach.ensures.kept c.in_ok-reach.ensures.reached c.found-found.ensures in
    c.offer_all.ensures ∙ ap (λ fs. merged c.args.top.now fs) found
