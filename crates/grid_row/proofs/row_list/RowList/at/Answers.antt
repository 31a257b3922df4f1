use Rattle.std.proofs.Common.{◌≡◌, ◌≤◌, ◌∙◌, ℕ, List, sym, ap, subst, length, arith}
use Rattle.std.specs.Prelude.{slice_get, slice_range, Some}
use Rattle.grid_row.specs.declared.row_list.RecordEnd.{RecordEnd}
use Rattle.grid_row.specs.Rows.{IsRowNumbers}
use Rattle.grid_row.specs.Kept.{kept_start}
use Rattle.grid_row.proofs.KeptFacts.{IsThere, many_there, is_there}
use Rattle.grid_row.proofs.row_list.RowList.at.Goals as goal

there : (c : goal.After-as_slice-2) → IsThere c.args.self.now c.args.place c.self.inside.rows.items c.start_of-from.result c.index-here.result.now
there c =
    is_there c.self.inside.ends.items c.self.inside.rows.items c.args.self.now c.args.place c.index-here.result.now c.start_of-from.result c.self.invariant c.self.view_is c.requires c.index-here.ensures
    (c.start_of-from.ensures ∙ ap (λ (ends : List RecordEnd). kept_start 0 ends c.args.place) c.as_slice.ensures.value)

lent : (c : goal.After-between) → slice_range c.self.inside.rows.items c.start_of-from.result c.index-here.result.now.end ≡ c.between.result.now
lent c = sym (c.between.ensures ∙ ap (λ (rows : List ℕ). slice_range rows c.start_of-from.result c.index-here.result.now.end) c.as_slice-2.ensures.value)

pub start_of-from-requires : goal.start_of-from-requires
start_of-from-requires c = omega (arith, c.requires, many_there c.self.inside.ends.items c.self.inside.rows.items c.args.self.now c.self.view_is, ap (length {A = RecordEnd}) c.as_slice.ensures.value)

pub index-here-requires : goal.index-here-requires
index-here-requires c = omega (arith, c.requires, many_there c.self.inside.ends.items c.self.inside.rows.items c.args.self.now c.self.view_is, ap (length {A = RecordEnd}) c.as_slice.ensures.value, c.as_slice.ensures.len)

pub between-requires-clause-low : goal.between-requires-clause-low
between-requires-clause-low c = (there c).low

pub between-requires-clause-high : goal.between-requires-clause-high
between-requires-clause-high c = subst (λ (rows : List ℕ). c.index-here.result.now.end ≤ length rows) (sym c.as_slice-2.ensures.value) (there c).high

pub returns-clause-record : goal.returns-clause-record
returns-clause-record c = subst (λ (rows : List ℕ). slice_get c.args.self.now c.args.place ≡ Some (record { set = c.index-here.result.now.set; rows = rows })) (lent c) (there c.before).is

pub returns-clause-rows : goal.returns-clause-rows
returns-clause-rows c = subst IsRowNumbers (lent c) (there c.before).rule.rows
