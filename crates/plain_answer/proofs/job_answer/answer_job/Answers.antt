use Rattle.std.proofs.Common.{◌≡◌, ◌∙◌, ◌<◌, ◌≤◌, List, [], All, sym, ap, subst, arith, rules, slice_index_or}
use Rattle.std.specs.Prelude.{AllPairs}
use Rattle.geo_base.specs.declared.cells.Cell.{Cell}
use Rattle.geo_base.specs.Answer.{best}
use Rattle.geo_base.specs.Job.{links_of, job_compat, job_best}
use Rattle.plain_answer.proofs.JobLinks.{in_16, links_rise, one_made, all_made, answer_of_parts}
use Rattle.plain_answer.proofs.job_answer.answer_job.Goals as goal

pub loop-number-preserved : goal.loop-number-preserved
loop-number-preserved g c =
    let cells = g.R.Rows.cells c.args.rows.now in
    record {
      links = one_made c.as_slice-pieces.result.now c.args.job.now.pieces cells (links_of c.args.job.now.pieces cells) c.loop-number.links.items c.add_cells.new.links.items c.loop-number.number _ c.as_slice.result.now
          c.as_slice-pieces.ensures
          c.loop-number.invariant.links
          (search (rules, arith))
          (c.as_slice.ensures.value ∙ (c.deref.ensures ∙ (c.in_ok-cells.ensures.cells ∙ ap (λ (cs : List (List Cell)). slice_index_or cs c.loop-number.number []) c.loop-number.invariant.same_cells)))
          c.in_ok-add_cells.ensures;
      same_pieces = c.in_ok-cells.ensures.same_pieces ∙ c.loop-number.invariant.same_pieces;
      same_cells = c.in_ok-cells.ensures.same_cells ∙ c.loop-number.invariant.same_cells;
      same_origin = c.in_ok-cells.ensures.same_origin ∙ c.loop-number.invariant.same_origin;
    }

pub best_contexts-requires-clause-layers : goal.best_contexts-requires-clause-layers
best_contexts-requires-clause-layers g c =
    let cells = g.R.Rows.cells c.args.rows.now in
    let made : c.loop-number.links.items ≡ links_of c.args.job.now.pieces cells = all_made c.args.job.now.pieces cells (links_of c.args.job.now.pieces cells) c.loop-number.links.items c.loop-number.number c.loop-number.invariant.links (search (rules, arith)) in
    subst (All (λ l. l.layer < 16)) (sym (c.deref-2.ensures.value ∙ made)) (in_16 c.args.job.now cells c.requires.fits.is_job)

pub best_contexts-requires-clause-rising : goal.best_contexts-requires-clause-rising
best_contexts-requires-clause-rising g c =
    let cells = g.R.Rows.cells c.args.rows.now in
    let made : c.loop-number.links.items ≡ links_of c.args.job.now.pieces cells = all_made c.args.job.now.pieces cells (links_of c.args.job.now.pieces cells) c.loop-number.links.items c.loop-number.number c.loop-number.invariant.links (search (rules, arith)) in
    subst (AllPairs (λ a b. a.layer ≤ b.layer)) (sym (c.deref-2.ensures.value ∙ made)) (links_rise c.args.job.now cells c.requires.fits.is_job)

pub returns-clause-answer : goal.returns-clause-answer
returns-clause-answer g c =
    let cells = g.R.Rows.cells c.args.rows.now in
    let made : c.loop-number.links.items ≡ links_of c.args.job.now.pieces cells = all_made c.args.job.now.pieces cells (links_of c.args.job.now.pieces cells) c.loop-number.links.items c.loop-number.number c.loop-number.invariant.links (search (rules, arith)) in
    let found : c.in_ok-top.top ≡ job_best c.args.job.now cells = c.in_ok-top.ensures ∙ ap (best (job_compat c.args.job.now)) (c.deref-2.ensures.value ∙ made) in
    answer_of_parts c.into_answer.result c.args.job.now.tokens (job_best c.args.job.now cells) c.into_answer.ensures.tokens (c.into_answer.ensures.contexts ∙ found)
