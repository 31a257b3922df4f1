use Rattle.std.proofs.Common.{◌≡◌, ◌*◌, ◌≤◌, length, take}
use Rattle.std.specs.List.{sum_by}
use Rattle.plain_answer.specs.Count.{run_count}
use Rattle.plain_answer.proofs.count.feature_count.Given as goal

-- the entries of the phrases so far that match, at most 400 for each phrase and tile
abbrev pub invariant-loop-phrase : goal.invariant-loop-phrase
invariant-loop-phrase l = record {
  value : l.count ≡ sum_by (λ p. run_count l.query l.layer p * length l.feature.tiles) (take l.phrase-index l.phrase-items);
  bound : l.count ≤ 400 * (l.phrase-index * length l.feature.tiles);
}
