use Rattle.std.proofs.Common.{◌≡◌, ◌∙◌, ◌==◌, ap}
use Rattle.std.specs.Prelude.{position}
use Rattle.geo_text.proofs.FirstPlace.{mark_cuts}
use Rattle.geo_text.proofs.cut.place_in.Goals as goal

pub returns : goal.returns
returns c =
    let is : c.place_of.result ≡ position (λ b. b == c.args.mark) c.args.text.now = c.place_of.ensures ∙ ap (position (λ b. b == c.args.mark)) c.as_bytes.ensures.value in
    let cuts = mark_cuts c.args.mark c.args.text.now c.place_of.result c.requires c.utf8.text is in
    record { value = is; before = cuts.0; behind = cuts.1 }
