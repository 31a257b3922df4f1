use Rattle.std.proofs.Common.{◌≡◌, ◌∙◌, ℕ, List, sym, ap, String, option_map}
use Rattle.std.specs.Prelude.{slice_get, string_bytes}
use Rattle.std.specs.Map.Iter.{deref_pair}
use Rattle.std.proofs.lemmas.Iterator.Consumers.{nth_from_yields_List, YieldsList-from_rest}
use Rattle.std.proofs.lemmas.Option.{slice_get-map}
use Rattle.geo_text.proofs.token_map.TokenMap.at.Goals as goal

-- the bytes of a token and of what it is replaced by
abbrev texts : {Y : Type 0} → String Y × String Y → List ℕ × List ℕ
texts e = (string_bytes e.0, string_bytes e.1)

pub returns : goal.returns
returns c =
    let found : option_map deref_pair c.nth.result ≡ slice_get c.self.inside.words.entries c.args.place = nth_from_yields_List c.nth.result _ c.args.place c.nth.ensures.ran (YieldsList-from_rest c.self.inside.words.entries c.iter.ensures.rest) in
    ap (λ words. slice_get words c.args.place) (sym c.self.view_is)
    ∙ (slice_get-map texts c.self.inside.words.entries c.args.place
    ∙ (ap (option_map texts) (sym found ∙ ap (option_map deref_pair) c.in-Some.is)
    ∙ cc (c.as_str.ensures.value, c.as_str-in-Some.ensures.value)))
