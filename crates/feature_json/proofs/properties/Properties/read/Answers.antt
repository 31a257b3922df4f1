use Rattle.std.proofs.Common.{ap, ◌∙◌}
use Rattle.feature_json.specs.Said.{values_of, properties_of, kept}
use Rattle.feature_json.proofs.Noted.{with_tiles, properties_tiles, properties_values}
use Rattle.feature_json.proofs.properties.Properties.read.Goals as goal

pub returns-then-eq-clause-ok : goal.returns-then-eq-clause-ok
returns-then-eq-clause-ok c =
    let seen = c.in_ok-self.ensures.ok in
    (seen.0, seen.1, λ found rises old. properties_tiles c.args.name.now seen.0 found (properties_of c.args.tiles.now.items c.args.self.now) _ old c.if-eq.ensures seen.2)

pub returns-clause-ok : goal.returns-clause-ok
returns-clause-ok c =
    let seen = c.in_ok-seen.ensures.ok in
    let was = properties_of c.args.tiles.now.items c.args.self.now in (
      seen.0,
      seen.1,
      λ found rises old.
          ap (λ b. with_tiles (values_of c.note.new.self) (kept b c.args.tiles.now.items)) c.in_ok-note.ensures.tiles
          ∙ properties_values c.args.name.now seen.0 found was (values_of c.note.new.self) old c.if-eq.ensures (c.in_ok-note.ensures.values seen.0 found rises seen.2),
    )
