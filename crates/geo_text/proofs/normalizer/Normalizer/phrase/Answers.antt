use Rattle.std.proofs.Common.{[]}
use Rattle.geo_text.specs.Tokens.{tokens_of, replaced}
use Rattle.geo_text.proofs.normalizer.Normalizer.phrase.Goals as goal

pub returns : goal.returns
returns c = c.text.ensures (replaced c.args.replace.now (tokens_of c.args.text.now)) (c.in_ok-give.ensures [] c.clear.ensures)
