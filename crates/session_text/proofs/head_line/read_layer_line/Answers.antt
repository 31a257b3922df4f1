use Rattle.session_text.proofs.Rooms.{layer_late}
use Rattle.session_text.proofs.head_line.read_layer_line.Goals as goal

pub returns-in_err-value-clause-memory : goal.returns-in_err-value-clause-memory
returns-in_err-value-clause-memory c is = layer_late c.args.layers.now c.args.text.now

pub returns-clause-memory : goal.returns-clause-memory
returns-clause-memory c is = layer_late c.args.layers.now c.args.text.now
