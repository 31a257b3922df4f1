use Rattle.std.proofs.Common.{◌≡◌, take, map, encode_utf8_all}
use Rattle.std.specs.Prelude.{string_bytes}
use Rattle.std.specs.Char.{to_ascii_lowercase}
use Rattle.geo_text.proofs.normalizer.lower_case.Given as goal

-- the characters so far
abbrev pub invariant-loop-b : goal.invariant-loop-b
invariant-loop-b l = string_bytes l.string ≡ encode_utf8_all (map to_ascii_lowercase (take l.b-index l.bytes))
