use Rattle.std.proofs.Common.{ap, ◌∙◌}
use Rattle.feature_json.specs.Shape.{shape_of}
use Rattle.feature_json.specs.Said.{kept}
use Rattle.feature_json.proofs.Listed.{some_named, none_named}
use Rattle.feature_json.proofs.tile_list.note.Goals as goal

pub returns-in_ok-push-in-Some : goal.returns-in_ok-push-in-Some
returns-in_ok-push-in-Some c d ds seen old =
    ap (kept c.args.good) c.in_ok-push-in-Some.ensures.items ∙ some_named c.args.good c.args.tiles.now.items d ds (shape_of c.args.seen) c.in-Some.tile c.in-Some.ensures seen old

pub returns-in-None : goal.returns-in-None
returns-in-None c d ds seen old = none_named d ds (shape_of c.args.seen) c.in-None.ensures seen
