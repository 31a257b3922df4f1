use Rattle.std.proofs.Common.{◌≡◌, ◌-◌, ◌*◌, ◌≤◌, length, filter}
use Rattle.std.specs.Prelude.{flat_map}
use Rattle.geo_base.specs.Lists.{numbers_from}
use Rattle.plain_answer.specs.Match.{runs_from, matches_in}
use Rattle.plain_answer.proofs.count.run_count.Given as goal

-- the runs from the tokens so far that match, at most 20 from each
abbrev pub invariant-loop-from : goal.invariant-loop-from
invariant-loop-from l = record {
  value : l.count ≡ length (filter (matches_in l.layer l.query l.phrase.text) (flat_map (runs_from (length l.tokens)) (numbers_from 0 (l.from - 0))));
  bound : l.count ≤ 20 * l.from;
}
