use Rattle.std.proofs.Common.{◌∙◌, sym, subst}
use Rattle.geo_text.specs.Tokens.{AreWords}
use Rattle.geo_text.proofs.TokenMaps.{clone_is}
use Rattle.geo_text.proofs.token_map.TokenMap.copy.Goals as goal

pub invariant_of-result : goal.invariant_of-result
invariant_of-result c = subst AreWords (sym (clone_is c.self.inside.words.entries c.in_ok-clone.field-0.entries c.in_ok-clone.ensures.cases)) c.self.invariant

pub returns : goal.returns
returns c = clone_is c.self.inside.words.entries c.in_ok-clone.field-0.entries c.in_ok-clone.ensures.cases ∙ c.self.view_is
