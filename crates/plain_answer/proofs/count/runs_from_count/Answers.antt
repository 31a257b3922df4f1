use Rattle.std.proofs.Common.{◌∙◌, ◌+◌, ℕ, Bool, sym, ap, arith}
use Rattle.plain_answer.specs.Match.{matches}
use Rattle.plain_answer.proofs.Counts.{number, one_more_counted}
use Rattle.plain_answer.proofs.count.runs_from_count.Goals as goal
use Rattle.plain_answer.proofs.count.runs_from_count.Goals.{then-is_match, else-is_match}

pub loop-to-preserved : goal.loop-to-preserved
loop-to-preserved c =
    let m : ℕ × ℕ → Bool = λ run. matches c.args.tokens.now c.args.auto run.0 run.1 c.args.phrase.now in
    let more = one_more_counted m (λ (to : ℕ). (c.args.from, to)) (c.args.from + 1) c.loop-to.to c.loop-to.count c.loop-to.auto.to c.loop-to.invariant.value in
    elim c.if-is_match.branch [
      | then-is_match w ↦ record {
        value = omega (arith, w.count-is, more, ap number (sym w.if-is_match.true ∙ c.is_match.ensures));
        bound = omega (arith, w.count-is, c.loop-to.invariant.bound, c.loop-to.auto.to);
      }
      | else-is_match w ↦ record {
        value = omega (arith, w.count-is, more, ap number (sym w.if-is_match.false ∙ c.is_match.ensures));
        bound = omega (arith, w.count-is, c.loop-to.invariant.bound, c.loop-to.auto.to);
      }
    ]
