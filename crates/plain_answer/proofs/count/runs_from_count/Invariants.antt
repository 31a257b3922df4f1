use Rattle.std.proofs.Common.{◌≡◌, ◌+◌, ◌-◌, ◌≤◌, ℕ, length, map, filter}
use Rattle.geo_base.specs.Lists.{numbers_from}
use Rattle.plain_answer.specs.Match.{matches}
use Rattle.plain_answer.proofs.count.runs_from_count.Given as goal

-- the runs so far that match, at most as many as there are
abbrev pub invariant-loop-to : goal.invariant-loop-to
invariant-loop-to l = record {
  value : l.count ≡ length (filter (λ (run : ℕ × ℕ). matches l.tokens l.auto' run.0 run.1 l.phrase) (map (λ (to : ℕ). (l.from, to)) (numbers_from (l.from + 1) (l.to - (l.from + 1)))));
  bound : l.count ≤ l.to - (l.from + 1);
}
