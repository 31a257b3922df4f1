-- What draining a feed says of the load that it was.
use Rattle.std.proofs.Common.{◌≡◌, ◌≢◌, ◌∙◌, ◌<◌, ◌+◌, ℕ, List, [], ◌∷◌, ◌++◌, length, Some, Result, Ok, Err, refl, sym, ap, subst, arith, append-nil}
use Rattle.std.specs.Prelude.{◌↔◌, IfOk}
use Rattle.std.proofs.lemmas.List.{length-append}
use Rattle.geo_layer.specs.Layer.{LayerView}
use Rattle.geo_outside.specs.Device.{Rose}
use Rattle.feature_reader.specs.Table.{Table}
use Rattle.feature_reader.specs.declared.load_report.LoadReport.{LoadReport}
use Rattle.feature_reader.specs.declared.load_report.LoadEnd.TheVariants.{End, Fault, Limit}
use Rattle.feature_feed.specs.Drain.{Gave, IsLoad, after_items}
use Rattle.feature_feed.specs.Feed.{FeedView}
use Rattle.feature_feed.specs.Load.{Load, IsLoadOf, IsAllOf, report_of}
use Rattle.feature_feed.specs.declared.feed.FeedItem.{FeedItem}

-- what is all of a list leaves nothing of it
nothing_left : (items gave more : List FeedItem) → items ≡ gave ++ more → length gave ≡ length items → items ≡ gave
nothing_left items gave [] is count = is ∙ append-nil gave
nothing_left items gave (x ∷ more) is count =
    let sum : length items ≡ length gave + length (x ∷ more) = ap (length {A = FeedItem}) is ∙ length-append gave (x ∷ more) in
    absurd (omega (arith, sum, count))

module _ (layer : LayerView) (langs : List (List ℕ)) (place : ℕ) (table after : Table) (b x : FeedView) where
  -- the load of a report
  pub loaded : {E : Type 0} (result : Result LoadReport E) → IfOk result (λ r. (gave : List FeedItem) × Gave b.left gave x.left × IsLoad layer langs place table after r gave)
      → IfOk result (λ r. x.given < 18446744073709551615 → x.given ≡ b.given + r.read)
      → IfOk result (λ r. r.end ≡ End → (r.read < 1048576) × ((items : List FeedItem) → b.left ≡ Some items → r.read ≡ length items))
      → IfOk result (λ r. r.end ≡ Fault → (r.read < 1048576) × Rose b.faults x.faults) → IfOk result (λ r. (r.end ≡ Limit) ↔ (r.read ≡ 1048576)) → IfOk result (λ r. r.end ≢ Fault → x.faults ≡ b.faults)
      → IfOk result (λ r. (load : Load) × IsLoadOf b x load × IsAllOf b x load × (r ≡ report_of layer langs place table load) × (after ≡ after_items layer langs place table load.gave))
  loaded (Err e) gave given ended failed limited kept = tt
  loaded (Ok r) (gave, g, l) given ended failed limited kept = (
    record { gave = gave; end = r.end },
    record {
      first = g.front;
      ended = λ e. (subst (λ n. n < 1048576) l.read (ended e).0, λ items told. let split = g.front items told in nothing_left items gave split.0 split.1 (sym l.read ∙ (ended e).1 items told));
      limited = (λ e. sym l.read ∙ limited.0 e, λ n. limited.1 (l.read ∙ n));
      failed = λ e. (subst (λ n. n < 1048576) l.read (failed e).0, (failed e).1);
    },
    record { given = λ low. given low ∙ ap (λ n. b.given + n) l.read; left = g.rest; kept = kept },
    rw (sym l.read, sym l.bad, sym l.full) refl,
    l.table,
  )
