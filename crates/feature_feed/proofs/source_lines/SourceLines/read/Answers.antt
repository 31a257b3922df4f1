use Rattle.feature_feed.proofs.LinesLeft.{read_more}
use Rattle.std.proofs.Common.{◌∙◌, ap}
use Rattle.feature_feed.specs.JsonLines.{bytes_left}
use Rattle.feature_feed.proofs.source_lines.SourceLines.read.Goals as goal

pub returns-clause-bytes : goal.returns-clause-bytes
returns-clause-bytes g c =
    let s = c.args.self.now in
    let m = c.in_ok-came.ensures.more in
    ap (λ l. bytes_left l c.room_after-self.result c.read.new.source.left) m.2
    ∙ read_more s.buffer m.0 s.room c.room_after-self.result c.in_ok-came.came s.source.left c.read.new.source.left m.1 m.3 m.5 c.room_after-self.ensures.ended c.room_after-self.ensures.more c.in_ok-came.ensures.told
