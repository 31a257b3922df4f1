use Rattle.feature_json.specs.Shape.{shape_of}
use Rattle.feature_json.specs.Said.{values_of}
use Rattle.feature_json.proofs.Noted.{note_text, note_score, note_relev, note_own, note_other}
use Rattle.feature_json.proofs.properties.Properties.note.Goals as goal

pub returns-then-eq-clause-values : goal.returns-then-eq-clause-values
returns-then-eq-clause-values c d found rises seen old = note_text c.args.name.now d found (values_of c.args.self.now) old _ seen c.if-eq.ensures

pub returns-then-eq-2-clause-values : goal.returns-then-eq-2-clause-values
returns-then-eq-2-clause-values c d found rises seen old = note_score c.args.name.now d found (values_of c.args.self.now) old _ seen c.if-eq-2.ensures

pub returns-then-eq-3-clause-values : goal.returns-then-eq-3-clause-values
returns-then-eq-3-clause-values c d found rises seen old = note_relev c.args.name.now d found (values_of c.args.self.now) old _ seen c.if-eq-3.ensures

pub returns-in_ok-set-clause-values : goal.returns-in_ok-set-clause-values
returns-in_ok-set-clause-values c d found rises seen old =
    note_own c.args.name.now d found (values_of c.args.self.now) old (shape_of c.args.seen) _ rises seen c.in_ok-set.ensures.ok c.if-is_own_name.ensures c.if-eq.ensures c.if-eq-2.ensures c.if-eq-3.ensures

pub returns-else-is_own_name-clause-values : goal.returns-else-is_own_name-clause-values
returns-else-is_own_name-clause-values c d found rises seen old = note_other c.args.name.now d found (values_of c.args.self.now) old c.if-is_own_name.ensures c.if-eq.ensures c.if-eq-2.ensures c.if-eq-3.ensures
