use Rattle.std.proofs.Common.{◌≡◌, ◌<◌, ◌≤◌, length, List, [], refl, sym, subst, ◌∙◌, ap, arith, get_or, map, below_more, slice_get, true, cond}
use Rattle.std.specs.Prelude.{Some}
use Rattle.std.proofs.lemmas.List.{get_or_default}
use Rattle.geo_base.specs.declared.cells.Cell.{Cell}
use Rattle.geo_base.specs.declared.event.Event.{Event}
use Rattle.geo_base.specs.declared.event.Event.TheVariants.{Claim}
use Rattle.stackable.specs.Bounded.{with_bound}
use Rattle.stackable.specs.Partial.{roots}
use Rattle.search_core.specs.Machine.{is_done, happens}
use Rattle.search_core.specs.Hand.{Hand, as_worker}
use Rattle.search_core.specs.Merging.{merged_tops}
use Rattle.search_core.specs.Staged.{staged}
use Rattle.search_core.specs.Shown.{shown}
use Rattle.search_core.specs.Kept.{AreKept}
use Rattle.stackable.proofs.FewPieces.{few_pieces}
use Rattle.search_core.proofs.HandFacts.{kept_many, kept_at}
use Rattle.search_core.proofs.PlayingFacts.{playing_starts, playing_on, playing_stops, playing_unfinished, playing_found, roots_few}
use Rattle.search_core.proofs.replay.play.Goals as goal

pub loop-i-init : goal.loop-i-init
loop-i-init g c = record {
  playing = playing_starts c.args.job.now (g.R.Rows.cells c.args.rows.now) c.requires.fits c.args.events.now c.in_ok-stage.stage.next c.in_ok-stage.stage.floor c.in_ok-stage.stage.workers.items c.in_ok-stage.ensures.state;
  jobs = c.in_ok-stage.ensures.jobs;
  eight = c.in_ok-stage.ensures.eight;
  few = omega (arith, c.in_ok-stage.ensures.next);
  kept = c.in_ok-fronts.ensures (g.R.Rows.cells c.args.rows.now);
  same_pieces = refl;
  same_cells = refl;
  same_origin = refl;
}

pub happen-requires-clause-roots : goal.happen-requires-clause-roots
happen-requires-clause-roots g c = c.as_slice-roots.ensures.value ∙ c.in_ok-kept.ensures

pub happen-requires-clause-kept : goal.happen-requires-clause-kept
happen-requires-clause-kept g c = subst (λ (cs : List (List Cell)). AreKept c.args.job.now cs c.loop-i.fronts) (sym c.loop-i.invariant.same_cells) c.loop-i.invariant.kept

pub loop-i-preserved : goal.loop-i-preserved
loop-i-preserved g c =
    let job = c.args.job.now in
    let event : Event = get_or c.args.events.now c.loop-i.i (Claim 0) in
    let then : staged c.happen.new.stage.next c.happen.new.stage.floor c.happen.new.stage.workers.items ≡ cond c.in_ok-happen.field-0 (shown (happens c.args.job.now (g.R.Rows.cells c.args.rows.now) (staged c.loop-i.stage.next c.loop-i.stage.floor c.loop-i.stage.workers.items) (get_or c.args.events.now c.loop-i.i (Claim 0)))) (staged c.loop-i.stage.next c.loop-i.stage.floor c.loop-i.stage.workers.items) =
    subst (λ (cs : List (List Cell)). staged c.happen.new.stage.next c.happen.new.stage.floor c.happen.new.stage.workers.items ≡ cond c.in_ok-happen.field-0 (shown (happens c.args.job.now cs (staged c.loop-i.stage.next c.loop-i.stage.floor c.loop-i.stage.workers.items) (get_or c.args.events.now c.loop-i.i (Claim 0)))) (staged c.loop-i.stage.next c.loop-i.stage.floor c.loop-i.stage.workers.items)) c.loop-i.invariant.same_cells c.in_ok-happen.ensures.event in
    record {
      playing = playing_on job (g.R.Rows.cells c.args.rows.now) c.requires.fits c.args.events.now c.loop-i.i c.loop-i.stage.next c.loop-i.stage.floor c.happen.new.stage.next c.happen.new.stage.floor c.loop-i.stage.workers.items c.happen.new.stage.workers.items event c.in_ok-happen.field-0 c.loop-i.invariant.playing c.loop-i-test.true
          (get_or_default c.args.events.now c.loop-i.i (Claim 0) event c.loop-i-test.true) (c.requires.workers c.loop-i.i (Claim 0) c.loop-i-test.true) c.in_ok-happen.ensures.test c.if-not-branch.false then;
      jobs = c.in_ok-happen.ensures.jobs c.args.job.now c.loop-i.invariant.jobs;
      eight = omega (arith, c.in_ok-happen.ensures.workers, c.loop-i.invariant.eight);
      few = omega (arith, c.in_ok-happen.ensures.next, c.loop-i.invariant.few);
      kept = subst (λ (cs : List (List Cell)). AreKept c.args.job.now cs c.happen.new.fronts) c.loop-i.invariant.same_cells c.in_ok-happen.ensures.kept;
      same_pieces = c.in_ok-happen.ensures.same_pieces ∙ c.loop-i.invariant.same_pieces;
      same_cells = c.in_ok-happen.ensures.same_cells ∙ c.loop-i.invariant.same_cells;
      same_origin = c.in_ok-happen.ensures.same_origin ∙ c.loop-i.invariant.same_origin;
    }

pub overflow_cast-result : goal.overflow_cast-result
overflow_cast-result g c =
    let is : c.as_slice-roots.result.now ≡ map (with_bound c.args.job.now) (roots c.args.job.now) = c.as_slice-roots.ensures.value ∙ c.in_ok-kept.ensures in
    let inside : c.loop-k.k < length (roots c.args.job.now) = omega (arith, c.loop-k-test.true, kept_many c.args.job.now c.as_slice-roots.result.now is) in
    let small : c.loop-k.k < 4294967296 = omega (arith, inside, roots_few c.args.job.now, few_pieces c.args.job.now c.requires.fits.is_job) in
    omega (arith, small)

pub returns-then-not-is_done-clause-said : goal.returns-then-not-is_done-clause-said
returns-then-not-is_done-clause-said g c =
    let is : c.as_slice-roots.result.now ≡ map (with_bound c.args.job.now) (roots c.args.job.now) = c.as_slice-roots.ensures.value ∙ c.in_ok-kept.ensures in
    let inside : c.loop-k.k < length (roots c.args.job.now) = omega (arith, c.loop-k-test.true, kept_many c.args.job.now c.as_slice-roots.result.now is) in
    let root : slice_get (roots c.args.job.now) c.loop-k.k ≡ Some c.index-roots-k.result.partial = kept_at c.args.job.now c.as_slice-roots.result.now c.loop-k.k c.index-roots-k.result is c.loop-k-test.true c.index-roots-k.is in
    let past : length c.args.events.now ≤ c.loop-i.i = c.loop-i-test.false in
    playing_unfinished c.args.job.now (g.R.Rows.cells c.args.rows.now) c.requires.fits c.args.events.now c.loop-i.i c.loop-i.stage.next c.loop-i.stage.floor c.loop-i.stage.workers.items c.loop-k.k c.loop-i.invariant.playing past inside c.loop-k.invariant
    (sym (c.is_done.ensures c.args.job.now root) ∙ c.if-not-is_done.true)

pub loop-k-preserved : goal.loop-k-preserved
loop-k-preserved g c =
    let is : c.as_slice-roots.result.now ≡ map (with_bound c.args.job.now) (roots c.args.job.now) = c.as_slice-roots.ensures.value ∙ c.in_ok-kept.ensures in
    let root : slice_get (roots c.args.job.now) c.loop-k.k ≡ Some c.index-roots-k.result.partial = kept_at c.args.job.now c.as_slice-roots.result.now c.loop-k.k c.index-roots-k.result is c.loop-k-test.true c.index-roots-k.is in
    below_more (λ j. is_done c.args.job.now (staged c.loop-i.stage.next c.loop-i.stage.floor c.loop-i.stage.workers.items) j ≡ true) c.loop-k.k c.loop-k.invariant
    (sym (c.is_done.ensures c.args.job.now root) ∙ c.if-not-is_done.false)

pub returns-clause-said : goal.returns-clause-said
returns-clause-said g c =
    let is : c.as_slice-roots.result.now ≡ map (with_bound c.args.job.now) (roots c.args.job.now) = c.as_slice-roots.ensures.value ∙ c.in_ok-kept.ensures in
    let all : length (roots c.args.job.now) ≤ c.loop-k.k = omega (arith, c.loop-k-test.false, kept_many c.args.job.now c.as_slice-roots.result.now is) in
    playing_found c.args.job.now (g.R.Rows.cells c.args.rows.now) c.requires.fits c.args.events.now c.loop-i.i c.loop-i.stage.next c.loop-i.stage.floor c.loop-i.stage.workers.items c.in_ok-merged.field-0 c.loop-i.invariant.playing c.loop-i-test.false
    (λ j h. c.loop-k.invariant j (omega (arith, h, all)))
    (c.in_ok-merged.ensures ∙ ap (λ (hs : List Hand). merged_tops [] (map (as_worker []) hs)) c.as_slice.ensures.value)

pub returns-then-not-branch-clause-said : goal.returns-then-not-branch-clause-said
returns-then-not-branch-clause-said g c =
    let event : Event = get_or c.args.events.now c.loop-i.i (Claim 0) in
    playing_stops c.args.job.now (g.R.Rows.cells c.args.rows.now) c.requires.fits c.args.events.now c.loop-i.i c.loop-i.stage.next c.loop-i.stage.floor c.loop-i.stage.workers.items event c.in_ok-happen.field-0 c.loop-i.invariant.playing c.loop-i-test.true
    (get_or_default c.args.events.now c.loop-i.i (Claim 0) event c.loop-i-test.true) c.in_ok-happen.ensures.test c.if-not-branch.true
