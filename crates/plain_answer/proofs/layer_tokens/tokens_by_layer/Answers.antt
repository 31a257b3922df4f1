use Rattle.std.proofs.Common.{rules}
use Rattle.geo_text.specs.Tokens.{replaced}
use Rattle.geo_layer.specs.Layer.{LayerView}
use Rattle.plain_answer.proofs.LayerTokens.{mapped_more}
use Rattle.plain_answer.proofs.layer_tokens.tokens_by_layer.Goals as goal

pub loop-number-preserved : goal.loop-number-preserved
loop-number-preserved c =
    mapped_more (λ (v : LayerView). replaced v.tokens c.args.query.now.tokens) c.args.head.now.layers c.loop-number.tokens.items c.push.new.self.items c.loop-number.number c.at-layer.result.now c.in_ok-replaced.field-0
    c.loop-number.invariant (search rules) (search rules) (search rules)
