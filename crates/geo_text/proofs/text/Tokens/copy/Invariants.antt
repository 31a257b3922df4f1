use Rattle.std.proofs.Common.{◌≡◌, take}
use Rattle.geo_text.proofs.text.Tokens.copy.Given as goal

-- the tokens so far
abbrev pub invariant-loop-token : goal.invariant-loop-token
invariant-loop-token l = l.list.items ≡ take l.token-index l.token-items
