use Rattle.feature_feed.proofs.LinesLeft.{from_start}
use Rattle.geo_outside.specs.Device.{most_bytes}
use Rattle.feature_feed.proofs.json_lines_feed.JsonLinesFeed.make.Goals as goal

pub returns-clause-left : goal.returns-clause-left
returns-clause-left g c =
    let made = c.in_ok-lines.ensures in
    from_start c.in_ok-lines.lines.buffer c.in_ok-lines.lines.room most_bytes c.in_ok-lines.lines.source.left (g.S.Source.left c.args.source) made.buffer made.room made.left
