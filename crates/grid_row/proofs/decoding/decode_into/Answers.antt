use Rattle.std.proofs.Common.{List, ap, subst, ◌∙◌, arith}
use Rattle.grid_row.specs.declared.record.Record.{Record}
use Rattle.grid_row.specs.Reading.{decoding}
use Rattle.grid_row.specs.Kept.{Gives}
use Rattle.grid_row.proofs.Fields.{IsBytes}
use Rattle.grid_row.proofs.ListSteps.{is_decoded, decoding_again, no_records_behind}
use Rattle.grid_row.proofs.KeptFacts.{is_reading, is_fault, is_read}
use Rattle.grid_row.proofs.decoding.decode_into.Goals as goal

read : (c : goal.After-records_of) → Gives {X = List Record} {Y = List Record} (λ x. x) c.records_of.result (decoding c.args.bytes.now)
read c = subst (λ f. Gives {X = List Record} {Y = List Record} (λ x. x) c.records_of.result f) (no_records_behind c.args.room (decoding c.args.bytes.now) c.requires) c.records_of.ensures.gives

pub returns-clause-spelled : goal.returns-clause-spelled
returns-clause-spelled c = is_decoded c.args.bytes.now c.records_of.result (λ i. omega (arith, c.type_inv.bytes i)) (read c)

pub returns-clause-read : goal.returns-clause-read
returns-clause-read c = λ rs are e. is_read c.records_of.result rs (subst (λ f. Gives {X = List Record} {Y = List Record} (λ x. x) c.records_of.result f) (ap decoding e ∙ decoding_again rs (subst IsBytes e (λ i. omega (arith, c.type_inv.bytes i))) are) (read c))

pub returns-clause-records : goal.returns-clause-records
returns-clause-records c = is_reading c.records_of.result (decoding c.args.bytes.now) (read c)

pub returns-clause-fault : goal.returns-clause-fault
returns-clause-fault c = is_fault c.records_of.result (decoding c.args.bytes.now) (read c)
