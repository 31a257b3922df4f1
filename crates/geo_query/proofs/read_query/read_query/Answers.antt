use Rattle.std.proofs.Common.{◌∙◌, Ok, arith, sym, ap}
use Rattle.geo_text.proofs.Replaced.{replaced-none}
use Rattle.geo_text.specs.Tokens.{tokens_of, replaced}
use Rattle.geo_query.specs.Query.{option_words}
use Rattle.geo_query.proofs.Accepted.{accepted}
use Rattle.geo_query.proofs.read_query.read_query.Goals as goal

pub returns-clause-ok : goal.returns-clause-ok
returns-clause-ok c =
    accepted c.args.line.now c.options_of-words.result.now c.text_after-text.result.now c.in_ok-tokens.tokens c.auto_in.result c.lang_in.result c.in-Some.bounds
    (c.options_of-words.ensures ∙ ap option_words c.as_bytes.ensures.value) c.text_after-text.ensures
    (c.in_ok-tokens.ensures ∙ (ap (λ map. replaced map (tokens_of c.text_after-text.result.now)) c.new.ensures ∙ replaced-none _)) c.auto_in.ensures c.lang_in.ensures c.in-Some.ensures.1 (sym c.options_fit.ensures ∙ c.if-not-options_fit.false) c.in-Some.ensures.0 (omega arith) (omega arith) (omega arith)
    ∙ ap Ok (sym c.from_parts.ensures)
