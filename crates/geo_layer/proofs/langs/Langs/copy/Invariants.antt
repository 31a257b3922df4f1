use Rattle.std.proofs.Common.{◌≡◌, take}
use Rattle.geo_layer.proofs.langs.Langs.copy.Given as goal

-- the codes so far
abbrev pub invariant-loop-code : goal.invariant-loop-code
invariant-loop-code l = l.list.items ≡ take l.code-index l.code-items
