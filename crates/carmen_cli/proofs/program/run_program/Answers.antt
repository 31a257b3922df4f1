use Rattle.std.proofs.Common.{ℕ, List, map, ap, sym, subst, string_bytes}
use Rattle.std.proofs.lemmas.List.{length-map}
use Rattle.geo_outside.specs.Device.{most_bytes}
use Rattle.query_server.specs.Promise.{IsDecided}
use Rattle.carmen_cli.specs.Program.{IsTold}
use Rattle.carmen_cli.proofs.Runs.{told_run, answered_run}
use Rattle.carmen_cli.proofs.program.run_program.Goals as goal
use Rattle.carmen_cli.proofs.program.run_program.Goals.{in-Some, in-None}

pub returns : goal.returns
returns g c = (
  c.match-about_of.status,
  c.end.ensures.exit,
  c.end.ensures.told,
  elim c.match-about_of.branch [
    | in-Some w ↦
        let told = subst (λ (t : List ℕ). IsTold t (g.K.Sink.contents c.args.sink.now) (g.K.Sink.contents w.tell-status.new.sink) (g.K.Sink.faults c.args.sink.now) (g.K.Sink.faults w.tell-status.new.sink) w.tell-status.result) w.about_text.ensures w.tell-status.ensures in
        told_run (g.S.Source.left) (g.S.Source.faults) (g.K.Sink.contents) (g.K.Sink.faults) _ (map string_bytes c.args.words.now) w.in-Some.about _ _ c.args.sink.now _ _ _ _ _ _ w.source-is w.sink-is (ap (λ f. f.items) w.feeds-is) w.status-is w.in-Some.ensures told
    | in-None w ↦
        let e = w.carmen-status.ensures in
        answered_run (g.S.Source.left) (g.S.Source.faults) (g.K.Sink.contents) (g.K.Sink.faults) _ (map string_bytes c.args.words.now) c.args.source.now _ _ c.args.sink.now _ _ _ _ _ _ _ w.source-is w.sink-is (ap (λ f. f.items) w.feeds-is) w.status-is w.in-None.ensures
        (record { session = e.session; usage = e.usage; untouched = e.untouched; read_fault = e.read_fault; write_fault = e.write_fault; decided = λ kind yes reads writes. subst (λ (n : ℕ). IsDecided most_bytes kind n (g.S.Source.left c.args.source.now) w.carmen-status.result) (sym (length-map c.args.feeds.now.items _)) (e.decided kind yes reads writes); later = e.later; kept = e.kept })
  ],
)
