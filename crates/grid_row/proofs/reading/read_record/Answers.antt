use Rattle.std.proofs.Common.{length, ap, subst, ◌∙◌, arith}
use Rattle.grid_row.specs.Reading.{front}
use Rattle.grid_row.specs.Spelling.{spelling}
use Rattle.grid_row.specs.Kept.{Gives}
use Rattle.grid_row.proofs.Records.{is_front, front_again}
use Rattle.grid_row.proofs.KeptFacts.{is_reading, is_fault, is_read}
use Rattle.grid_row.proofs.reading.read_record.Goals as goal

pub returns-clause-spelled : goal.returns-clause-spelled
returns-clause-spelled c = is_front c.args.bytes.now c.front_of.result (λ i. omega (arith, c.type_inv.bytes i)) c.front_of.ensures.gives

pub returns-clause-read : goal.returns-clause-read
returns-clause-read c = λ r rest is e. is_read c.front_of.result (r, length (spelling r)) (subst (λ f. Gives (λ x. x) c.front_of.result f) (ap front e ∙ front_again r rest is) c.front_of.ensures.gives)

pub returns-clause-record : goal.returns-clause-record
returns-clause-record c = is_reading c.front_of.result (front c.args.bytes.now) c.front_of.ensures.gives

pub returns-clause-fault : goal.returns-clause-fault
returns-clause-fault c = is_fault c.front_of.result (front c.args.bytes.now) c.front_of.ensures.gives
