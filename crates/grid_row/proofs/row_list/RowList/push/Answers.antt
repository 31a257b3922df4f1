use Rattle.std.proofs.Common.{◌∙◌, ◌<◌, ◌^◌, arith, ap₂, ◌++◌, ◌∷◌, [], ap, subst, length, ℕ, List}
use Rattle.grid_row.specs.declared.record.Record.{Record}
use Rattle.grid_row.specs.declared.row_list.RecordEnd.{RecordEnd}
use Rattle.grid_row.specs.Rows.{IsRowNumbers}
use Rattle.grid_row.proofs.KeptFacts.{Pushed, pushed}
use Rattle.grid_row.proofs.row_list.RowList.push.Goals as goal

done : (c : goal.After-push_reserved) → Pushed c.self.inside.ends.items c.self.inside.rows.items c.push_reserved.new.self.items c.extend_from_slice.new.self.items c.args.added.now
done c =
    let set : c.args.added.now.set.bits < 2 ^ 128 = omega (arith, c.bits_of-bits.ensures, c.bits_of-bits.type_inv) in
    pushed c.self.inside.ends.items c.self.inside.rows.items c.args.added.now.rows c.extend_from_slice.new.self.items c.push_reserved.new.self.items c.args.added.now.set (length c.as_slice-end.result.now) c.self.invariant
    (record { set = set; rows = subst IsRowNumbers c.as_slice.ensures.value c.as_slice.ensures.rows })
    (c.in_ok-extend_from_slice.ensures.items ∙ ap (λ (more : List ℕ). c.self.inside.rows.items ++ more) c.as_slice.ensures.value)
    (ap (length {A = ℕ}) c.as_slice-end.ensures.value)
    (c.push_reserved.ensures.items
    ∙ ap₂ (λ (ends : List RecordEnd) (b : ℕ). ends ++ record { set = record { bits = b }; end = length c.as_slice-end.result.now } ∷ []) c.in_ok-reserve.ensures.items c.bits_of-bits.ensures)

pub invariant_of-self-2 : goal.invariant_of-self-2
invariant_of-self-2 c = ((done c).rises, (done c).are)

pub returns-clause-ok : goal.returns-clause-ok
returns-clause-ok c = (done c).is ∙ ap (λ (rs : List Record). rs ++ c.args.added.now ∷ []) c.self.view_is
