use Rattle.std.proofs.Common.{◌≡◌, take}
use Rattle.geo_text.specs.Tokens.{replaced}
use Rattle.geo_text.proofs.tokens.replaced.Given as goal

-- the tokens so far, each replaced
abbrev pub invariant-loop-token : goal.invariant-loop-token
invariant-loop-token l = l.tokens ≡ replaced l.replace (take l.token-index l.token-items)
