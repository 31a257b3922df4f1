use Rattle.std.proofs.Common.{drop}
use Rattle.std.specs.Prelude.{string_bytes}
use Rattle.geo_text.proofs.AsciiTokens.{lower}
use Rattle.geo_text.proofs.TokenWalks.{Along}
use Rattle.geo_text.proofs.normalizer.ascii_tokens.Given as goal

-- the tokens given so far, and those that the token at hand and the bytes that are left make, are those of all
abbrev pub invariant-loop-b : goal.invariant-loop-b
invariant-loop-b g l = Along l.replace (g.S.TokenSink.has l.initial.sink) (g.S.TokenSink.has l.sink) (string_bytes l.token) (lower (drop l.b-index l.text)) (lower l.text)
