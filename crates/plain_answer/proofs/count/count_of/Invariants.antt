use Rattle.std.proofs.Common.{◌≡◌, ◌+◌, ◌*◌, ◌≤◌, map, All}
use Rattle.feature_reader.specs.FeatureView.{IsFeature}
use Rattle.feature_reader.specs.Table.{entry_of, rows}
use Rattle.plain_answer.specs.Count.{product_count}
use Rattle.plain_answer.proofs.count.count_of.Given as goal

-- the count so far, and that of the features that are left; they are at most 400 for each row; and what the type of a feature keeps holds of those so far
abbrev pub invariant-loop-place : goal.invariant-loop-place
invariant-loop-place l = record {
  value : l.count + product_count l.head (map entry_of l.place-iterator) l.query ≡ product_count l.head l.table l.query;
  bound : l.count + 400 * rows (map entry_of l.place-iterator) ≤ 400 * rows l.table;
  features : All (λ e. IsFeature e.1) (map entry_of l.place-iterator) → All (λ e. IsFeature e.1) l.table;
}
