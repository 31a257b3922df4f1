use Rattle.std.proofs.Common.{◌∙◌, sym, ap, length}
use Rattle.grid_row.specs.declared.row_list.RecordEnd.{RecordEnd}
use Rattle.grid_row.proofs.KeptFacts.{many_there}
use Rattle.grid_row.proofs.row_list.RowList.len.Goals as goal

pub returns : goal.returns
returns c = ap (length {A = RecordEnd}) c.as_slice.ensures.value ∙ sym (many_there c.self.inside.ends.items c.self.inside.rows.items c.args.self.now c.self.view_is)
