use Rattle.std.proofs.Common.{◌≡◌, ◌∙◌, ◌++◌, ◌∷◌, [], ap, arith}
use Rattle.std.specs.Prelude.{string_bytes}
use Rattle.geo_text.proofs.Joins.{joined_and_counted}
use Rattle.geo_text.proofs.token_sink.JoinedTokensTokenSink.add.Goals as goal

pub returns-then-self-lt21 : goal.returns-then-self-lt21
returns-then-self-lt21 c tokens h =
    let text : string_bytes c.push_str-3.new.self ≡ (string_bytes c.args.self.now.text ++ 32 ∷ []) ++ c.args.token.now = c.in_ok-push_str-3.ensures.bytes ∙ ap (λ t. t ++ c.args.token.now) c.in_ok-push_str-2.ensures.bytes in
    joined_and_counted (string_bytes c.args.self.now.text) _ c.args.self.now.count _ tokens c.args.token.now h.0 h.1 (omega arith) text (omega arith)

pub returns-else-self-lt21 : goal.returns-else-self-lt21
returns-else-self-lt21 c tokens h =
    let text : string_bytes c.push_str-3.new.self ≡ (string_bytes c.args.self.now.text ++ 32 ∷ []) ++ c.args.token.now = c.in_ok-push_str-3.ensures.bytes ∙ ap (λ t. t ++ c.args.token.now) c.in_ok-push_str-2.ensures.bytes in
    joined_and_counted (string_bytes c.args.self.now.text) _ c.args.self.now.count _ tokens c.args.token.now h.0 h.1 (omega arith) text (omega (arith, h.1))
