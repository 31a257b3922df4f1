use Rattle.std.proofs.Common.{subst}
use Rattle.geo_text.specs.Tokens.{Rise}
use Rattle.geo_text.proofs.TokenMaps.{rises}
use Rattle.geo_text.proofs.token_map.TokenMap.len.Goals as goal

pub returns-clause-rises : goal.returns-clause-rises
returns-clause-rises c = subst Rise c.self.view_is (rises c.self.inside.words.entries c.len.ensures.ordered)
