use Rattle.std.proofs.Common.{◌≡◌, ◌++◌, take}
use Rattle.std.specs.Prelude.{flat_map}
use Rattle.plain_answer.specs.Links.{phrase_links}
use Rattle.plain_answer.proofs.links.LayerQuery.add_feature.Given as goal

-- the links of the phrases so far
abbrev pub invariant-loop-phrase : goal.invariant-loop-phrase
invariant-loop-phrase l = l.links.items ≡ l.fn.links.items ++ flat_map (phrase_links l.self.head.now l.self.query.now l.self.layer.now l.self.number l.feature) (take l.phrase-index l.phrase-items)
