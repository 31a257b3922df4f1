use Rattle.std.proofs.Common.{ℕ, List, Result, Ok, Err, subst}
use Rattle.std.specs.Prelude.{OnErr}
use Rattle.std.specs.Io.{StartsWith}
use Rattle.std.proofs.Transfers.{starts_with_trans, starts_with_of_append}
use Rattle.grid_row.proofs.writing.append.Goals as goal

on_err : {A E : Type 0} (P : Type 0) (r : Result A E) → P → OnErr r P
on_err P (Ok x) p = tt
on_err P (Err e) p = p

pub returns-in_err-append_rows-clause-err : goal.returns-in_err-append_rows-clause-err
returns-in_err-append_rows-clause-err c =
    let first : StartsWith c.append_set.new.out.items c.reserve.new.self.items = starts_with_of_append _ _ _ c.in_ok-append_set.ensures.ok in
    let second : StartsWith c.extend_from_slice.new.self.items c.append_set.new.out.items = starts_with_of_append _ _ _ c.in_ok-extend_from_slice.ensures.items in
    let both = starts_with_trans _ _ _ second first in
    let all : StartsWith c.append_rows.new.out.items c.reserve.new.self.items = starts_with_trans _ _ _ c.in_err-append_rows.ensures.err both in
    on_err _ c.from_residual-in_err-append_rows.result (subst (λ (old : List ℕ). StartsWith c.append_rows.new.out.items old) c.in_ok-reserve.ensures.items all)
