use Rattle.std.proofs.Common.{◌≡◌, ◌==◌, ◌∙◌, Some, true, All, sym, subst}
use Rattle.std.specs.Prelude.{slice_get}
use Rattle.std.specs.List.{list_all}
use Rattle.std.proofs.lemmas.Bool.{eqb-true}
use Rattle.std.proofs.lemmas.List.Elements.{All-weaker}
use Rattle.std.proofs.lemmas.List.Sums.{AllPass-from_list_all}
use Rattle.geo_base.specs.TileView.{TileView}
use Rattle.feature_reader.specs.Table.{IsOfHead}
use Rattle.feature_reader.proofs.OfHead.{put_of_head}
use Rattle.search_tests.proofs.places.add.Goals as goal

pub returns : goal.returns
returns g c =
    let zoom = c.zoom-zoom.result in
    let there = subst (λ n. slice_get c.args.head.now.layers n ≡ Some c.at.result.now) c.from-2.ensures c.at.ensures.value in
    let tested = subst (λ ts. list_all (λ t. t.z == zoom) ts ≡ true) (c.as_slice.ensures ∙ c.tiles.ensures.value) (sym c.are_at_zoom.ensures ∙ c.if-not-are_at_zoom.false) in
    let each = AllPass-from_list_all (λ (t : TileView). t.z == zoom) c.args.f.tiles tested in
    let at : All (λ t. t.z ≡ zoom) c.args.f.tiles = All-weaker (λ t. (t.z == zoom) ≡ true) (λ t. t.z ≡ zoom) (λ t is. eqb-true t.z zoom is) c.args.f.tiles each in
    subst (IsOfHead c.args.head.now) (sym c.in-Ok.ensures.ok.1)
    (put_of_head c.args.head.now c.args.table.now c.args.layer c.at.result.now c.args.f c.requires there
    (subst (λ z. All (λ t. t.z ≡ z) c.args.f.tiles) c.zoom-zoom.ensures.value at))
