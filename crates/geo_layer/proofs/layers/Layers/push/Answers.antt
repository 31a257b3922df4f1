use Rattle.std.proofs.Common.{◌<◌, ◌≤◌, length, sym, subst}
use Rattle.geo_layer.specs.Layer.{AreLayers}
use Rattle.geo_layer.specs.LayerText.{last_zoom}
use Rattle.geo_layer.proofs.LayerFacts.{one_layer}
use Rattle.geo_layer.proofs.layers.Layers.push.Goals as goal

pub invariant_of-self-2 : goal.invariant_of-self-2
invariant_of-self-2 c =
    let few : length c.self.inside.list.items < 16 = subst (λ l. length l < 16) (sym c.self.view_is) c.requires.few in
    let rising : last_zoom c.self.inside.list.items ≤ c.args.layer.zoom = subst (λ l. last_zoom l ≤ c.args.layer.zoom) (sym c.self.view_is) c.requires.rising in
    subst AreLayers (sym c.in_ok-push.ensures.items) (one_layer c.self.inside.list.items c.args.layer c.self.invariant c.zoom-zoom.ensures.is few rising)
