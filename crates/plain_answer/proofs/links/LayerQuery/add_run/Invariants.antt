use Rattle.std.proofs.Common.{◌≡◌, ◌++◌, take, filter, map}
use Rattle.plain_answer.specs.Links.{meets_bounds, link_of}
use Rattle.plain_answer.proofs.links.LayerQuery.add_run.Given as goal

-- the links of the tiles so far
abbrev pub invariant-loop-tile : goal.invariant-loop-tile
invariant-loop-tile l = l.links.items ≡ l.fn.links.items ++ map (link_of l.self.head.now l.self.query.now l.self.number l.feature l.phrase (l.from, l.to)) (filter (meets_bounds l.self.query.now.bounds) (take l.tile-index l.feature.tiles))
