use Rattle.std.proofs.Common.{◌∙◌, sym, ap, option_map, Some}
use Rattle.std.specs.Prelude.{string_bytes}
use Rattle.geo_text.specs.Tokens.{replacement}
use Rattle.geo_text.proofs.TokenMaps.{replacement_is}
use Rattle.geo_text.proofs.token_map.TokenMap.get.Goals as goal

pub returns-in-Some : goal.returns-in-Some
returns-in-Some c =
    ap Some c.as_str.ensures.value
    ∙ (ap (option_map string_bytes) c.in-Some.ensures.value
    ∙ (sym (replacement_is c.args.token.now c.self.inside.words.entries)
    ∙ ap (λ r. replacement r c.args.token.now) c.self.view_is))

pub returns-in-None : goal.returns-in-None
returns-in-None c =
    ap (option_map string_bytes) c.in-None.ensures.value
    ∙ (sym (replacement_is c.args.token.now c.self.inside.words.entries)
    ∙ ap (λ r. replacement r c.args.token.now) c.self.view_is)
