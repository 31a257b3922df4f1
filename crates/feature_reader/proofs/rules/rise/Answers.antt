use Rattle.std.proofs.Common.{◌≡◌, ◌∙◌, ℕ, rules, tests}
use Rattle.std.proofs.lemmas.List.Sorted.{answers_always}
use Rattle.std.proofs.lemmas.List.Filters.{dedup_is}
use Rattle.geo_base.specs.TileView.{TileView}
use Rattle.feature_reader.proofs.Rising.{rising_is}
use Rattle.feature_reader.proofs.rules.rise.Goals as goal

abbrev place : TileView → ℕ × ℕ
place t = (t.x, t.y)

pub returns : goal.returns
returns c =
    dedup_is _ _ _ c.dedup.ensures.filtered
    ∙ rising_is c.args.zoom c.args.tiles.now.items _ c.requires c.sort_unstable_by_key.ensures.permutation (c.sort_unstable_by_key.ensures.sorted place (answers_always _ (λ a r. r ≡ place a.0.now) _ (λ f a r q called. search (rules, tests))))
