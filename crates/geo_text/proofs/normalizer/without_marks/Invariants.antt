use Rattle.std.proofs.Common.{◌≡◌, ◌++◌, drop, filter, not, encode_utf8_all}
use Rattle.std.specs.Prelude.{string_bytes}
use Rattle.geo_text.specs.Normal.{is_combining}
use Rattle.geo_text.proofs.normalizer.without_marks.Given as goal

-- the bytes so far and those of the characters that are left are those of all
abbrev pub invariant-loop-c : goal.invariant-loop-c
invariant-loop-c l =
    string_bytes l.string ++ encode_utf8_all (filter (λ c. not (is_combining c)) (drop l.c-index l.key)) ≡ encode_utf8_all (filter (λ c. not (is_combining c)) l.key)
