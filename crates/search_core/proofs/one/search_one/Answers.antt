use Rattle.std.proofs.Common.{refl, ◌≡◌, ◌<◌, ◌≤◌, ◌+◌, length, List, map, sym, subst, ◌∙◌, ap, arith, cond, slice_get}
use Rattle.geo_base.specs.declared.cells.Cell.{Cell}
use Rattle.geo_base.specs.declared.job.Job.{Job}
use Rattle.stackable.specs.Bounded.{with_bound}
use Rattle.stackable.specs.Partial.{roots}
use Rattle.search_core.specs.Machine.{looked, cut, opened, claimed}
use Rattle.search_core.specs.Hand.{Hand, as_worker}
use Rattle.search_core.specs.Kept.{AreKept}
use Rattle.search_core.proofs.HandFacts.{kept_many}
use Rattle.search_core.proofs.AlongFacts.{starts, claims_along, turn_along, over, some_from}
use Rattle.search_core.proofs.one.search_one.Goals as goal

pub loop-k-init : goal.loop-k-init
loop-k-init g c = record {
  job = ap (λ (x : Hand). x.job) c.in_ok-worker.ensures;
  along = starts c.args.job.now (g.R.Rows.cells c.args.rows.now) c.requires.fits c.args.steps.now c.in_ok-worker.worker c.in_ok-worker.ensures;
  idle = ap (λ (x : Hand). x.stack) c.in_ok-worker.ensures;
  kept = c.in_ok-fronts.ensures (g.R.Rows.cells c.args.rows.now);
  same_pieces = refl;
  same_cells = refl;
  same_origin = refl;
}

pub claim-requires-clause-roots : goal.claim-requires-clause-roots
claim-requires-clause-roots g c =
    let is : c.as_slice-roots.result.now ≡ map (with_bound c.args.job.now) (roots c.args.job.now) = c.as_slice-roots.ensures.value ∙ c.in_ok-kept.ensures in
    subst (λ (j : Job). c.as_slice-roots.result.now ≡ map (with_bound j) (roots j)) (sym c.loop-k.invariant.job) is

pub loop-worker-init : goal.loop-worker-init
loop-worker-init g c =
    let job = c.args.job.now in
    let is : c.as_slice-roots.result.now ≡ map (with_bound c.args.job.now) (roots c.args.job.now) = c.as_slice-roots.ensures.value ∙ c.in_ok-kept.ensures in
    let left : c.loop-k.k < length (roots c.args.job.now) = omega (arith, c.loop-k-test.true, kept_many c.args.job.now c.as_slice-roots.result.now is) in
    record {
      job = c.claim.ensures.job ∙ c.loop-k.invariant.job;
      along = claims_along job (g.R.Rows.cells c.args.rows.now) c.requires.fits c.loop-k.k c.loop-k.floor c.loop-k.worker c.claim.new.self c.loop-k.opens c.loop-k.cuts c.args.steps.now c.loop-k.steps c.loop-k.invariant.along c.loop-k.invariant.idle left
          (λ claims. subst (λ (j : Job). as_worker (claimed (as_worker claims c.loop-k.worker) c.loop-k.k (slice_get (roots j) c.loop-k.k)).claims c.claim.new.self ≡ claimed (as_worker claims c.loop-k.worker) c.loop-k.k (slice_get (roots j) c.loop-k.k)) c.loop-k.invariant.job (c.claim.ensures.claimed claims));
      kept = c.loop-k.invariant.kept;
      same_pieces = c.loop-k.invariant.same_pieces;
      same_cells = c.loop-k.invariant.same_cells;
      same_origin = c.loop-k.invariant.same_origin;
    }

pub take_turn-requires-clause-kept : goal.take_turn-requires-clause-kept
take_turn-requires-clause-kept g c = subst (λ (cs : List (List Cell)). AreKept c.args.job.now cs c.loop-worker.fronts) (sym c.loop-worker.invariant.same_cells) c.loop-worker.invariant.kept

pub loop-worker-smaller : goal.loop-worker-smaller
loop-worker-smaller g c =
    let job = c.args.job.now in
    let cells = g.R.Rows.cells c.args.rows.now in
    let some : 0 < length c.loop-worker.worker.stack = some_from c.loop-worker.worker.stack (sym c.idle.ensures ∙ c.loop-worker-test.true) in
    let turn = turn_along job (g.R.Rows.cells c.args.rows.now) c.requires.fits (c.loop-k.k + 1) c.loop-worker.floor c.take_turn.new.floor c.loop-worker.worker c.take_turn.new.worker c.loop-worker.opens c.loop-worker.cuts c.counted-opens.result c.counted-cuts.result c.args.steps.now c.loop-worker.steps c.take_turn.new.steps c.in_ok-was_cut.was_cut
    c.loop-worker.invariant.along some c.in_ok-was_cut.ensures.floor c.in_ok-was_cut.ensures.test
    (λ claims. subst (λ (cs : List (List Cell)). as_worker claims c.take_turn.new.worker ≡ cond c.in_ok-was_cut.was_cut (cut (looked (as_worker claims c.loop-worker.worker) c.take_turn.new.floor)) (opened c.args.job.now cs (looked (as_worker claims c.loop-worker.worker) c.take_turn.new.floor))) c.loop-worker.invariant.same_cells (c.in_ok-was_cut.ensures.worker claims))
    c.counted-opens.ensures c.counted-cuts.ensures c.in_ok-was_cut.ensures.ticks in
    turn.1

pub loop-worker-preserved : goal.loop-worker-preserved
loop-worker-preserved g c =
    let job = c.args.job.now in
    let cells = g.R.Rows.cells c.args.rows.now in
    let some : 0 < length c.loop-worker.worker.stack = some_from c.loop-worker.worker.stack (sym c.idle.ensures ∙ c.loop-worker-test.true) in
    let turn = turn_along job (g.R.Rows.cells c.args.rows.now) c.requires.fits (c.loop-k.k + 1) c.loop-worker.floor c.take_turn.new.floor c.loop-worker.worker c.take_turn.new.worker c.loop-worker.opens c.loop-worker.cuts c.counted-opens.result c.counted-cuts.result c.args.steps.now c.loop-worker.steps c.take_turn.new.steps c.in_ok-was_cut.was_cut
    c.loop-worker.invariant.along some c.in_ok-was_cut.ensures.floor c.in_ok-was_cut.ensures.test
    (λ claims. subst (λ (cs : List (List Cell)). as_worker claims c.take_turn.new.worker ≡ cond c.in_ok-was_cut.was_cut (cut (looked (as_worker claims c.loop-worker.worker) c.take_turn.new.floor)) (opened c.args.job.now cs (looked (as_worker claims c.loop-worker.worker) c.take_turn.new.floor))) c.loop-worker.invariant.same_cells (c.in_ok-was_cut.ensures.worker claims))
    c.counted-opens.ensures c.counted-cuts.ensures c.in_ok-was_cut.ensures.ticks in
    record {
      job = c.in_ok-was_cut.ensures.job ∙ c.loop-worker.invariant.job;
      along = turn.0;
      kept = subst (λ (cs : List (List Cell)). AreKept c.args.job.now cs c.take_turn.new.fronts) c.loop-worker.invariant.same_cells c.in_ok-was_cut.ensures.kept;
      same_pieces = c.in_ok-was_cut.ensures.same_pieces ∙ c.loop-worker.invariant.same_pieces;
      same_cells = c.in_ok-was_cut.ensures.same_cells ∙ c.loop-worker.invariant.same_cells;
      same_origin = c.in_ok-was_cut.ensures.same_origin ∙ c.loop-worker.invariant.same_origin;
    }

pub returns-clause-top : goal.returns-clause-top
returns-clause-top g c =
    let is : c.as_slice-roots.result.now ≡ map (with_bound c.args.job.now) (roots c.args.job.now) = c.as_slice-roots.ensures.value ∙ c.in_ok-kept.ensures in
    let past : length (roots c.args.job.now) ≤ c.loop-k.k = omega (arith, c.loop-k-test.false, kept_many c.args.job.now c.as_slice-roots.result.now is) in
    let end = over c.args.job.now (g.R.Rows.cells c.args.rows.now) c.requires.fits c.loop-k.k c.loop-k.floor c.loop-k.worker c.loop-k.opens c.loop-k.cuts c.args.steps.now c.loop-k.steps c.loop-k.invariant.along c.loop-k.invariant.idle past in
    c.into_top.ensures ∙ end.top

pub returns-clause-opens : goal.returns-clause-opens
returns-clause-opens g c =
    let is : c.as_slice-roots.result.now ≡ map (with_bound c.args.job.now) (roots c.args.job.now) = c.as_slice-roots.ensures.value ∙ c.in_ok-kept.ensures in
    let past : length (roots c.args.job.now) ≤ c.loop-k.k = omega (arith, c.loop-k-test.false, kept_many c.args.job.now c.as_slice-roots.result.now is) in
    let end = over c.args.job.now (g.R.Rows.cells c.args.rows.now) c.requires.fits c.loop-k.k c.loop-k.floor c.loop-k.worker c.loop-k.opens c.loop-k.cuts c.args.steps.now c.loop-k.steps c.loop-k.invariant.along c.loop-k.invariant.idle past in
    end.opens_is

pub returns-clause-cuts : goal.returns-clause-cuts
returns-clause-cuts g c =
    let is : c.as_slice-roots.result.now ≡ map (with_bound c.args.job.now) (roots c.args.job.now) = c.as_slice-roots.ensures.value ∙ c.in_ok-kept.ensures in
    let past : length (roots c.args.job.now) ≤ c.loop-k.k = omega (arith, c.loop-k-test.false, kept_many c.args.job.now c.as_slice-roots.result.now is) in
    let end = over c.args.job.now (g.R.Rows.cells c.args.rows.now) c.requires.fits c.loop-k.k c.loop-k.floor c.loop-k.worker c.loop-k.opens c.loop-k.cuts c.args.steps.now c.loop-k.steps c.loop-k.invariant.along c.loop-k.invariant.idle past in
    end.cuts_is

pub returns-clause-ticks : goal.returns-clause-ticks
returns-clause-ticks g c =
    let is : c.as_slice-roots.result.now ≡ map (with_bound c.args.job.now) (roots c.args.job.now) = c.as_slice-roots.ensures.value ∙ c.in_ok-kept.ensures in
    let past : length (roots c.args.job.now) ≤ c.loop-k.k = omega (arith, c.loop-k-test.false, kept_many c.args.job.now c.as_slice-roots.result.now is) in
    let end = over c.args.job.now (g.R.Rows.cells c.args.rows.now) c.requires.fits c.loop-k.k c.loop-k.floor c.loop-k.worker c.loop-k.opens c.loop-k.cuts c.args.steps.now c.loop-k.steps c.loop-k.invariant.along c.loop-k.invariant.idle past in
    end.ticks
