use Rattle.std.proofs.Common.{◌≡◌, ◌≤◌, ◌<◌, ◌+◌, List}
use Rattle.feature_feed.proofs.Filled.{Filling}
use Rattle.feature_feed.specs.declared.feed.FeedItem.{FeedItem}
use Rattle.feature_reader.specs.declared.load_report.LoadEnd.TheVariants as at
use Rattle.feature_feed.proofs.drain.fill.Given as goal

-- what the feed gave so far was put and counted
abbrev pub invariant-loop : goal.invariant-loop
invariant-loop g l =
    let before = (goal.Feed-dyn g (l.fn.feed.vtable, l.fn.feed.value)) in
    let now = (goal.Feed-dyn g (l.feed.vtable, l.feed.value)) in
    record {
      filling : (gave : List FeedItem) × Filling (before.shows l.fn.feed.value).left l.layer l.langs l.place (g.T.Taker.table l.fn.into) l.report gave (now.shows l.feed.value).left (g.T.Taker.table l.into);
      count : (now.shows l.feed.value).given < 18446744073709551615 → (now.shows l.feed.value).given ≡ (before.shows l.fn.feed.value).given + l.counter;
      faults : (now.shows l.feed.value).faults ≡ (before.shows l.fn.feed.value).faults;
      end : l.report.end ≡ at.Limit;
      layers : g.T.Taker.takes l.into ≡ g.T.Taker.takes l.fn.into;
      rest : g.T.Taker.with_table l.into ≡ g.T.Taker.with_table l.fn.into;
      read : l.report.read ≡ l.counter;
      bad : l.report.bad ≤ l.report.read;
      full : l.report.full ≤ l.report.read;
    }
