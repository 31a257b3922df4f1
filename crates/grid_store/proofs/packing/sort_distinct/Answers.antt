use Rattle.std.proofs.Common.{is_lt, ◌≡◌, ◌↔◌, sym, subst, rules, tests}
use Rattle.std.specs.Prelude.{Contains}
use Rattle.std.specs.List.{dedup}
use Rattle.std.specs.List.Sorted.{IsStrictlySortedBy, IsSorted}
use Rattle.std.proofs.lemmas.List.Sorted.{answers_always, ranks_by}
use Rattle.std.proofs.lemmas.List.Filters.{dedup_is}
use Rattle.grid_store.specs.Packing.{packed_cmp}
use Rattle.grid_store.proofs.OrderFacts.{packed_cmp_total, same, sorted_rise, sorted_members}
use Rattle.grid_store.proofs.packing.sort_distinct.Goals as goal

pub returns-clause-rise : goal.returns-clause-rise
returns-clause-rise c =
    let sorted : IsSorted packed_cmp c.sort_unstable_by.new.self.items =
    c.sort_unstable_by.ensures.sorted (λ a b. is_lt (packed_cmp a b)) (ranks_by packed_cmp_total (λ e. e)) (answers_always _ (λ a r. is_lt r ≡ is_lt (packed_cmp a.0.now a.1.0.now)) _ (λ f a r q called. search (rules, tests))) in
    let is : c.dedup.new.self.items ≡ dedup same c.sort_unstable_by.new.self.items = dedup_is _ _ _ c.dedup.ensures.filtered in
    subst (IsStrictlySortedBy packed_cmp) (sym is) (sorted_rise c.sort_unstable_by.new.self.items sorted)

pub returns-clause-members : goal.returns-clause-members
returns-clause-members c k =
    let is : c.dedup.new.self.items ≡ dedup same c.sort_unstable_by.new.self.items = dedup_is _ _ _ c.dedup.ensures.filtered in
    subst (λ xs. Contains xs k ↔ Contains c.args.entries.now.items k) (sym is) (sorted_members c.args.entries.now.items c.sort_unstable_by.new.self.items c.sort_unstable_by.ensures.permutation k)
