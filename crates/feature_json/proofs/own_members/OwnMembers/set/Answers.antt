use Rattle.std.proofs.Common.{ap, ◌∙◌, map}
use Rattle.feature_json.specs.Shape.{shape_of}
use Rattle.feature_json.specs.Own.{own_entry, put_own}
use Rattle.feature_json.proofs.Owned.{entries_put}
use Rattle.feature_json.proofs.own_members.OwnMembers.set.Goals as goal

pub returns-clause-ok : goal.returns-clause-ok
returns-clause-ok c =
    ap (map own_entry) c.in_ok-insert.ensures.entries
    ∙ entries_put c.args.name c.args.seen c.self.inside.by_name.entries
    ∙ ap (put_own c.args.name.now (shape_of c.args.seen)) c.self.view_is
