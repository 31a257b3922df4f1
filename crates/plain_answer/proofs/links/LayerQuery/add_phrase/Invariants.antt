use Rattle.std.proofs.Common.{◌≡◌, ◌++◌, ◌-◌, ℕ, length}
use Rattle.std.specs.Prelude.{flat_map}
use Rattle.geo_base.specs.Lists.{numbers_from}
use Rattle.plain_answer.specs.Match.{runs_from}
use Rattle.plain_answer.specs.Links.{run_links}
use Rattle.plain_answer.proofs.links.LayerQuery.add_phrase.Given as goal

-- the links of the runs from the tokens so far
abbrev pub invariant-loop-from : goal.invariant-loop-from
invariant-loop-from l = l.links.items ≡ l.fn.links.items ++ flat_map (λ (from : ℕ). flat_map (run_links l.self.head.now l.self.query.now l.self.layer.now l.self.number l.feature l.phrase) (runs_from (length l.self.tokens.now) from)) (numbers_from 0 (l.from - 0))
