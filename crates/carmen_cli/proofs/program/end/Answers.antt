use Rattle.std.proofs.Common.{◌≡◌, rules, subst}
use Rattle.carmen_cli.specs.Program.{told_of, IsBegun}
use Rattle.carmen_cli.proofs.Runs.{begun}
use Rattle.carmen_cli.proofs.program.end.Goals as goal

pub returns : goal.returns
returns g c =
    let line : c.as_bytes.result.now ≡ told_of c.args.status = search rules in
    record {
      exit = search rules;
      told = subst (IsBegun (g.E.Sink.contents c.args.errors.now) (g.E.Sink.contents c.put_all.new.sink)) line (begun c.put_all.result _ _ c.as_bytes.result.now c.put_all.ensures.all c.put_all.ensures.part);
    }
