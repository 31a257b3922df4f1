use Rattle.std.proofs.Common.{◌∙◌, ◌<◌, rules, arith}
use Rattle.geo_text.proofs.AsciiTokens.{is_token_char-ascii}
use Rattle.geo_text.proofs.normalizer.is_in_token.Goals as goal

pub returns-then-is_ascii : goal.returns-then-is_ascii
returns-then-is_ascii c =
    let below : c.args.c < 128 = search (rules, arith) in
    search rules ∙ is_token_char-ascii c.args.c below
