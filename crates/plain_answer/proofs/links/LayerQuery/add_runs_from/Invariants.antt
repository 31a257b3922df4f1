use Rattle.std.proofs.Common.{◌≡◌, ◌+◌, ◌-◌, ◌++◌, ℕ}
use Rattle.std.specs.Prelude.{flat_map}
use Rattle.geo_base.specs.Lists.{numbers_from}
use Rattle.plain_answer.specs.Links.{run_links}
use Rattle.plain_answer.proofs.links.LayerQuery.add_runs_from.Given as goal

-- the links of the runs so far
abbrev pub invariant-loop-to : goal.invariant-loop-to
invariant-loop-to l = l.links.items ≡ l.fn.links.items ++ flat_map (λ (to : ℕ). run_links l.self.head.now l.self.query.now l.self.layer.now l.self.number l.feature l.phrase (l.from, to)) (numbers_from (l.from + 1) (l.to - (l.from + 1)))
