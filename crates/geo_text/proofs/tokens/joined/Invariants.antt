use Rattle.std.proofs.Common.{◌≡◌, ◌+◌, take, drop}
use Rattle.geo_text.specs.Tokens.{joined}
use Rattle.geo_text.proofs.tokens.joined.Given as goal

-- the tokens so far with one space between them
abbrev pub invariant-loop-token : goal.invariant-loop-token
invariant-loop-token l = l.text ≡ joined (take (l.token-index + 1) (drop l.fn.from l.list))
