use Rattle.std.proofs.Common.{sym}
use Rattle.geo_query.proofs.BoxTexts.{too_many}
use Rattle.geo_query.proofs.options.read_box.Goals as goal

pub returns-in-Some : goal.returns-in-Some
returns-in-Some c =
    sym (too_many c.args.text.now c.in_ok-z.z.now c.in_ok-z.rest.now c.in_ok-x0.x0.now c.in_ok-x0.rest.now c.in_ok-y0.y0.now c.in_ok-y0.rest.now c.in_ok-x1.x1.now c.in_ok-x1.y1.now
    c.in-Some.field-0.0.now c.in-Some.field-0.1.now c.in_ok-z.ensures.parts c.in_ok-x0.ensures.parts c.in_ok-y0.ensures.parts c.in_ok-x1.ensures.parts c.in-Some.ensures.parts)
