use Rattle.std.proofs.Common.{◌∙◌, ◌-◌, ◌++◌, length, take, drop, sym, ap}
use Rattle.geo_text.specs.Tokens.{joined}
use Rattle.plain_answer.proofs.Begins.{match_both, begins_more, split_first, behind_space, same_end}
use Rattle.plain_answer.proofs.matching.+after_run.Goals as goal

pub returns-in_err-after-in-len1-up : goal.returns-in_err-after-in-len1-up
returns-in_err-after-in-len1-up t c =
    let split = split_first c.args.tokens.now c.first-item.result c.in-len1-up.len_at_least c.first-item.is in
    let first = c.as_bytes-in-len1-up.ensures.value ∙ c.as_str-in-len1-up.ensures in
    rw c.from_residual-in_err-after-in-len1-up.ensures (λ rest is.
    c.in_err-after-in-len1-up.ensures _ (behind_space _ _ _ _ _ (c.in_ok-rest-in-len1-up.ensures ∙ ap (λ l. l ++ c.in_ok-rest-in-len1-up.rest.now) first) split.1 (is ∙ ap (λ l. joined l ++ rest) split.0)))

pub returns-in_ok-after-in-len1-up : goal.returns-in_ok-after-in-len1-up
returns-in_ok-after-in-len1-up t c =
    let split = split_first c.args.tokens.now c.first-item.result c.in-len1-up.len_at_least c.first-item.is in
    let first = c.as_bytes-in-len1-up.ensures.value ∙ c.as_str-in-len1-up.ensures in
    let begun = c.in_ok-rest-in-len1-up.ensures ∙ ap (λ l. l ++ c.in_ok-rest-in-len1-up.rest.now) first in
    let more = take (length c.args.tokens.now - 1) (drop 1 c.args.tokens.now) in
    match_both c.after_run.result c.after_run.ensures
    (λ none rest is. none rest (same_end c.in_ok-rest-in-len1-up.rest.now c.in_ok-after-in-len1-up.field-0.now (joined more) rest (behind_space _ _ _ _ _ begun split.1 (is ∙ ap (λ l. joined l ++ rest) split.0)) c.in_ok-after-in-len1-up.ensures))
    (λ rest is. begins_more _ _ _ _ _ split.1 begun c.in_ok-after-in-len1-up.ensures rest.now is ∙ ap (λ l. joined l ++ rest.now) (sym split.0))
