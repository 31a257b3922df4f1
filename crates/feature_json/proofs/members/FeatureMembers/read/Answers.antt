use Rattle.feature_json.specs.Said.{said_by}
use Rattle.feature_json.proofs.Noted.{note_id, note_properties, note_no_id}
use Rattle.feature_json.proofs.members.FeatureMembers.read.Goals as goal

pub returns-then-eq-clause-ok : goal.returns-then-eq-clause-ok
returns-then-eq-clause-ok c =
    let seen = c.in_ok-self.ensures.ok in
    (seen.0, seen.1, λ found old. note_properties c.args.name.now seen.0 found (said_by c.args.tiles.now.items c.args.self.now) old _ seen.2 c.if-eq.ensures)

pub returns-then-eq-2-clause-ok : goal.returns-then-eq-2-clause-ok
returns-then-eq-2-clause-ok c =
    let seen = c.in_ok-seen.ensures.ok in
    (seen.0, seen.1, λ found old. note_id c.args.name.now seen.0 found (said_by c.args.tiles.now.items c.args.self.now) old _ seen.2 c.if-eq-2.ensures)

pub returns-else-eq-2-clause-ok : goal.returns-else-eq-2-clause-ok
returns-else-eq-2-clause-ok c =
    let seen = c.in_ok-seen.ensures.ok in
    (seen.0, seen.1, λ found old. note_no_id c.args.name.now seen.0 found (said_by c.args.tiles.now.items c.args.self.now) old c.if-eq-2.ensures c.if-eq.ensures)
