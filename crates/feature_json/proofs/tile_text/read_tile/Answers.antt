use Rattle.std.proofs.Common.{sym}
use Rattle.feature_json.proofs.TileTexts.{too_many}
use Rattle.feature_json.proofs.tile_text.read_tile.Goals as goal

pub returns-in-Some : goal.returns-in-Some
returns-in-Some c =
    sym (too_many c.args.text.now c.in_ok-z.z.now c.in_ok-z.rest.now c.in_ok-x.x.now c.in_ok-x.y.now c.in-Some.field-0.0.now c.in-Some.field-0.1.now c.in_ok-z.ensures.parts c.in_ok-x.ensures.parts c.in-Some.ensures.parts)
