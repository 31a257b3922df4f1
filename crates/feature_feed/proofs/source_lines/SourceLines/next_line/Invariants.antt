use Rattle.std.proofs.Common.{◌≡◌, ◌+◌, ◌≤◌, length}
use Rattle.feature_feed.specs.JsonLines.{lines_left}
use Rattle.feature_feed.proofs.source_lines.SourceLines.next_line.Given as goal

-- no line was taken yet, and no read failed
abbrev pub invariant-loop-line : goal.invariant-loop-line
invariant-loop-line g l = record {
  lines : lines_left l.self.buffer l.self.room l.self.source.left ≡ lines_left l.fn.self.buffer l.fn.self.room l.fn.self.source.left;
  most : l.self.room + length l.self.buffer ≤ l.fn.self.room + length l.fn.self.buffer;
  faults : l.self.source.faults ≡ l.fn.self.source.faults;
}

abbrev pub decreases-loop-line : goal.decreases-loop-line
decreases-loop-line g l = l.self.room
