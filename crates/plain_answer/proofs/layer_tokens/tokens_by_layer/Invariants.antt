use Rattle.std.proofs.Common.{◌≡◌, map, take}
use Rattle.geo_text.specs.Tokens.{replaced}
use Rattle.plain_answer.proofs.layer_tokens.tokens_by_layer.Given as goal

-- the tokens of the layers so far
abbrev pub invariant-loop-number : goal.invariant-loop-number
invariant-loop-number l = l.tokens.items ≡ map (λ v. replaced v.tokens l.query.tokens) (take l.number l.head.layers)
