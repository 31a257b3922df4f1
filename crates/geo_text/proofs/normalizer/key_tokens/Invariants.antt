use Rattle.std.proofs.Common.{drop}
use Rattle.std.specs.Prelude.{string_bytes}
use Rattle.geo_text.proofs.TokenWalks.{Along}
use Rattle.geo_text.proofs.normalizer.key_tokens.Given as goal

-- the tokens given so far, and those that the token at hand and the characters that are left make, are those of all
abbrev pub invariant-loop-c : goal.invariant-loop-c
invariant-loop-c g l = Along l.replace (g.S.TokenSink.has l.initial.sink) (g.S.TokenSink.has l.sink) (string_bytes l.token) (drop l.c-index l.key) l.key
