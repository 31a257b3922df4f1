use Rattle.std.proofs.Common.{◌≡◌, ◌∙◌, ap, rules}
use Rattle.feature_reader.specs.FeatureView.{zoom_of}
use Rattle.feature_feed.proofs.ItemZooms.{item_zoom}
use Rattle.feature_feed.proofs.drain.take_item.Goals as goal

pub take-requires : goal.take-requires
take-requires g c =
    let zoom : zoom_of c.in-Ok.feature ≡ c.args.layer.now.zoom = item_zoom c.args.layer.now c.args.langs.now c.args.item.now c.in-Ok.feature (search rules) c.tiles-tiles.ensures.is.some in
    ap (g.T.Taker.takes c.args.into.now c.args.place) zoom ∙ c.requires
