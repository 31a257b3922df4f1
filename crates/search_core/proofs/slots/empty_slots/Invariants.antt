use Rattle.std.proofs.Common.{◌≡◌, All, vec_len, None}
use Rattle.search_core.proofs.slots.empty_slots.Given as goal

abbrev pub invariant-loop : goal.invariant-loop
invariant-loop g l = record {
  none : All (λ o. o ≡ None) l.slots.items;
  sized : vec_len l.slots ≡ l.counter;
}
