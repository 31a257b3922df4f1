use Rattle.std.proofs.Common.{◌≡◌, ◌∙◌, ℕ, Bool, List, length, filter, ap, arith}
use Rattle.plain_answer.specs.Match.{runs_from, matches, matches_in}
use Rattle.plain_answer.proofs.Counts.{one_more_list}
use Rattle.plain_answer.proofs.count.run_count.Goals as goal

pub loop-from-preserved : goal.loop-from-preserved
loop-from-preserved c =
    let counted : List (List ℕ) → Bool → List ℕ → ℕ → ℕ = λ tokens auto text n. length (filter (λ (run : ℕ × ℕ). matches tokens auto run.0 run.1 text) (runs_from n c.loop-from.from)) in
    let m = matches_in c.args.layer.now c.args.query.now c.args.phrase.now.text in
    let here : c.runs_from_count-count.result ≡ length (filter m (runs_from (length c.args.tokens.now) c.loop-from.from)) =
    c.runs_from_count-count.ensures.value
    ∙ (ap (λ ts. counted ts c.auto.result c.as_str.result.now (length ts)) c.as_slice.ensures
    ∙ (ap (λ b. counted c.args.tokens.now b c.as_str.result.now (length c.args.tokens.now)) c.auto.ensures
    ∙ (ap (λ s. counted c.args.tokens.now c.args.query.now.auto s (length c.args.tokens.now)) c.as_str.ensures
    ∙ ap (λ ts. counted ts c.args.query.now.auto c.args.phrase.now.text (length c.args.tokens.now)) c.requires.tokens))) in
    let more = one_more_list m (runs_from (length c.args.tokens.now)) c.loop-from.from c.loop-from.count c.loop-from.invariant.value in
    record {
      value = omega (arith, here, more);
      bound = omega (arith, c.loop-from.invariant.bound, c.runs_from_count-count.ensures.bound);
    }
