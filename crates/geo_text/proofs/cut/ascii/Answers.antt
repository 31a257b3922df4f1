use Rattle.std.proofs.lemmas.Str.{IsUtf8-from_ascii}
use Rattle.std.proofs.Common.{rules}
use Rattle.geo_text.proofs.Ascii.{is_ascii-true, is_ascii-false}
use Rattle.geo_text.proofs.cut.ascii.Goals as goal

pub returns-then-not-is_ascii : goal.returns-then-not-is_ascii
returns-then-not-is_ascii c = is_ascii-false c.args.bytes.now (search rules)

pub returns-in-Ok : goal.returns-in-Ok
returns-in-Ok c = (is_ascii-true _ c.if-not-is_ascii.ensures.cases, c.in-Ok.ensures.cases.0, c.if-not-is_ascii.ensures.cases)

pub returns-in-Err : goal.returns-in-Err
returns-in-Err c = absurd (c.in-Err.ensures.cases.0 (IsUtf8-from_ascii _ c.if-not-is_ascii.ensures.cases))
