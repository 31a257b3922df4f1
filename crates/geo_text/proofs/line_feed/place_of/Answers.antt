use Rattle.geo_text.proofs.FirstByte.{found_is}
use Rattle.geo_text.proofs.line_feed.place_of.Goals as goal

pub returns : goal.returns
returns c = found_is 10 c.args.bytes.now c.memchr.result c.memchr.ensures
