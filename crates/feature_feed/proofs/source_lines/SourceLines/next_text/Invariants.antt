use Rattle.std.proofs.Common.{◌≡◌, ◌+◌, length}
use Rattle.feature_feed.specs.JsonLines.{items_left}
use Rattle.feature_feed.proofs.source_lines.SourceLines.next_text.Given as goal

-- the lines that were taken are empty, and no read failed
abbrev pub invariant-loop-text : goal.invariant-loop-text
invariant-loop-text g l = record {
  items : items_left l.self.buffer l.self.room l.self.source.left ≡ items_left l.fn.self.buffer l.fn.self.room l.fn.self.source.left;
  faults : l.self.source.faults ≡ l.fn.self.source.faults;
}

abbrev pub decreases-loop-text : goal.decreases-loop-text
decreases-loop-text g l = l.self.room + length l.self.buffer
