use Rattle.std.proofs.Common.{◌≡◌, ◌∙◌, ◌↔◌, List, map, ap, subst}
use Rattle.std.specs.Prelude.{Contains}
use Rattle.std.proofs.lemmas.List.Elements.{All-contains}
use Rattle.geo_base.proofs.Members.{all_from_members}
use Rattle.grid_store.specs.declared.packing.PackedEntry.{PackedEntry}
use Rattle.grid_store.specs.Packing.{packed_entry, IsPacked}
use Rattle.grid_store.proofs.packing.packed_entries.Goals as goal

pub returns-clause-members : goal.returns-clause-members
returns-clause-members c = λ k.
    let is : c.in_ok-entries.entries.items ≡ map packed_entry c.args.list.items = c.in_ok-entries.ensures.value ∙ ap (map packed_entry) c.as_slice.ensures.value in
    subst (λ (old : List PackedEntry). Contains c.sort_distinct.new.entries.items k ↔ Contains old k) is (c.sort_distinct.ensures.members k)

pub returns-clause-fit : goal.returns-clause-fit
returns-clause-fit c = all_from_members IsPacked c.sort_distinct.new.entries.items (λ k there. All-contains IsPacked c.in_ok-entries.entries.items k c.in_ok-entries.ensures.fit ((c.sort_distinct.ensures.members k).0 there))
