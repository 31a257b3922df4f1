use Rattle.std.proofs.Common.{◌≡◌, ◌++◌, [], ◌∷◌, List, length, All, sym, subst, ◌∙◌, ap, arith, map, reverse}
use Rattle.std.proofs.lemmas.List.Elements.{All-append}
use Rattle.geo_base.specs.declared.job.Job.{Job}
use Rattle.stackable.specs.declared.bounded.Bounded.{Bounded}
use Rattle.stackable.specs.Bounded.{IsBounded, with_bound}
use Rattle.stackable.specs.Partial.{IsPartial, survivors}
use Rattle.search_core.specs.Machine.{children_of}
use Rattle.search_core.proofs.HandFacts.{in_hand, own_job, stack_some, open_some, last_of, front_of, kids_are_partials, kids_are_bounded, opens_top_of, put_back}
use Rattle.search_core.proofs.worker.Worker.open_top.Goals as goal

pub take_last-top-requires : goal.take_last-top-requires
take_last-top-requires g c =
    let view : in_hand c.self.inside.job.value c.self.inside.stack.items c.self.inside.seen c.self.inside.top ≡ c.args.self.now = c.self.view_is in
    omega (arith, stack_some c.self.inside.job.value c.self.inside.stack.items c.self.inside.seen c.self.inside.top c.args.self.now view (open_some c.args.job.now c.args.self.now c.requires.may), c.self.inside.stack.ok)

pub open_partial-requires-clause-partial : goal.open_partial-requires-clause-partial
open_partial-requires-clause-partial g c =
    let view : in_hand c.self.inside.job.value c.self.inside.stack.items c.self.inside.seen c.self.inside.top ≡ c.args.self.now = c.self.view_is in
    let own : c.self.inside.job.value ≡ c.args.job.now = own_job c.self.inside.job.value c.self.inside.stack.items c.self.inside.seen c.self.inside.top c.args.self.now view ∙ c.requires.job in
    let is : IsBounded c.self.inside.job.value c.take_last-top.result = last_of (IsBounded c.self.inside.job.value) c.take_last-top.new.self.items c.take_last-top.result (subst (All (IsBounded c.self.inside.job.value)) c.take_last-top.ensures.items c.self.invariant.2) in
    subst (λ (j : Job). IsPartial j c.take_last-top.result.partial) own is.partial

pub invariant_of-self : goal.invariant_of-self
invariant_of-self g c =
    let view : in_hand c.self.inside.job.value c.self.inside.stack.items c.self.inside.seen c.self.inside.top ≡ c.args.self.now = c.self.view_is in
    let job = c.args.job.now in
    let cells = g.R.Rows.cells c.args.rows.now in
    let own : c.self.inside.job.value ≡ c.args.job.now = own_job c.self.inside.job.value c.self.inside.stack.items c.self.inside.seen c.self.inside.top c.args.self.now view ∙ c.requires.job in
    let all : All (IsBounded c.args.job.now) (c.take_last-top.new.self.items ++ c.take_last-top.result ∷ []) = subst (λ (j : Job). All (IsBounded j) (c.take_last-top.new.self.items ++ c.take_last-top.result ∷ [])) own (subst (All (IsBounded c.self.inside.job.value)) c.take_last-top.ensures.items c.self.invariant.2) in
    let is : IsBounded c.args.job.now c.take_last-top.result = last_of (IsBounded c.args.job.now) c.take_last-top.new.self.items c.take_last-top.result all in
    let found = survivors c.args.job.now (g.R.Rows.cells c.args.rows.now) c.take_last-top.result.partial in
    let kids = children_of job found c.take_last-top.result.partial in (
      omega (arith, c.self.invariant.0, c.take_last-top.ensures.capacity, c.in-Ok.ensures.capacity),
      c.self.invariant.1,
      subst (λ (j : Job). All (IsBounded j) c.open_partial.new.stack.items) (sym own)
          (subst (All (IsBounded c.args.job.now)) (sym c.in-Ok.ensures.pushed)
          (All-append (IsBounded c.args.job.now) c.take_last-top.new.self.items (reverse (map (with_bound job) kids))
          (front_of (IsBounded c.args.job.now) c.take_last-top.new.self.items (c.take_last-top.result ∷ []) all)
          (kids_are_bounded job kids (kids_are_partials job c.requires.fits.is_job found c.take_last-top.result.partial is.partial)))),
    )

pub returns-in-Ok-clause-opened : goal.returns-in-Ok-clause-opened
returns-in-Ok-clause-opened g c =
    let view : in_hand c.self.inside.job.value c.self.inside.stack.items c.self.inside.seen c.self.inside.top ≡ c.args.self.now = c.self.view_is in
    let own : c.self.inside.job.value ≡ c.args.job.now = own_job c.self.inside.job.value c.self.inside.stack.items c.self.inside.seen c.self.inside.top c.args.self.now view ∙ c.requires.job in
    opens_top_of c.self.inside.job.value c.self.inside.stack.items c.self.inside.seen c.self.inside.top c.args.self.now view c.args.job.now own (g.R.Rows.cells c.args.rows.now) c.take_last-top.new.self.items c.open_partial.new.stack.items c.take_last-top.result c.open_partial.new.top
    c.take_last-top.ensures.items c.in-Ok.ensures.pushed c.in-Ok.ensures.offered

pub push_reserved-requires : goal.push_reserved-requires
push_reserved-requires g c =
    let same : length c.open_partial.new.stack.items ≡ length c.take_last-top.new.self.items = ap (λ (bs : List Bounded). length bs) c.in-Err.ensures.same_stack in
    omega (arith, same, c.open_partial.new.stack.ok, c.take_last-top.new.self.ok, c.take_last-top.ensures.len, c.take_last-top.ensures.capacity, c.in-Err.ensures.capacity, c.self.inside.stack.ok)

pub invariant_of-self-in-Err : goal.invariant_of-self-in-Err
invariant_of-self-in-Err g c =
    let again : c.push_reserved.new.self.items ≡ c.self.inside.stack.items = c.push_reserved.ensures.items ∙ (ap (λ (bs : List Bounded). bs ++ c.take_last-top.result ∷ []) c.in-Err.ensures.same_stack ∙ sym c.take_last-top.ensures.items) in (
      omega (arith, c.self.invariant.0, c.take_last-top.ensures.capacity, c.in-Err.ensures.capacity, c.push_reserved.ensures.capacity),
      c.self.invariant.1,
      subst (All (IsBounded c.self.inside.job.value)) (sym again) c.self.invariant.2,
    )

pub returns-in-Err-clause-refused : goal.returns-in-Err-clause-refused
returns-in-Err-clause-refused g c =
    let view : in_hand c.self.inside.job.value c.self.inside.stack.items c.self.inside.seen c.self.inside.top ≡ c.args.self.now = c.self.view_is in
    put_back c.self.inside.job.value c.self.inside.stack.items c.self.inside.seen c.self.inside.top c.args.self.now view c.take_last-top.new.self.items c.push_reserved.new.self.items c.take_last-top.result c.open_partial.new.top
    c.take_last-top.ensures.items (c.push_reserved.ensures.items ∙ ap (λ (bs : List Bounded). bs ++ c.take_last-top.result ∷ []) c.in-Err.ensures.same_stack) c.in-Err.ensures.same_top
