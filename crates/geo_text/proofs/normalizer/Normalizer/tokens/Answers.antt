use Rattle.std.proofs.Common.{[]}
use Rattle.geo_text.proofs.normalizer.Normalizer.tokens.Goals as goal

pub returns : goal.returns
returns c = c.in_ok-give.ensures [] c.new-tokens.ensures
