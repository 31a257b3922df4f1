use Rattle.std.proofs.Common.{◌≡◌, ℕ, List, [], ◌∷◌, ◌++◌, length, take, get_or, sym, ◌∙◌, subst, ap, arith}
use Rattle.std.specs.Prelude.{IsPermutation}
use Rattle.std.specs.List.{refill}
use Rattle.std.proofs.lemmas.List.Sorted.{length_permutation}
use Rattle.geo_base.specs.declared.link.Link.{Link}
use Rattle.geo_base.specs.Order.{same_target, context_cmp}
use Rattle.geo_base.specs.Placed.{at_places}
use Rattle.top_list.specs.Ranked.{IsRanked}
use Rattle.top_list.specs.Merged.{merged}
use Rattle.top_list.specs.Placed.{placed}
use Rattle.top_list.proofs.PlacedFacts.{best_is_ranked}
use Rattle.top_list.proofs.ShelfFacts.{refilled, put_is, shelf_moved}
use Rattle.top_list.proofs.TopList.put.Goals as goal
use Rattle.top_list.proofs.TopList.put.Goals.{After-self-2-1}

abbrev new_order : After-self-2-1 → List ℕ
new_order c = refill (length c.hold.new.order.items) c.hold.new.order.items c.place-self-inside.new.order

moved : (c : After-self-2-1) → IsPermutation c.hold.new.order.items c.place-self-inside.new.order
moved c = subst (λ xs. IsPermutation xs c.place-self-inside.new.order) c.as_mut_slice.ensures.value c.place-self-inside.ensures.permutation

order_is : (c : After-self-2-1) → new_order c ≡ c.place-self-inside.new.order
order_is c = refilled c.hold.new.order.items c.place-self-inside.new.order (length_permutation _ _ (moved c))

way : (c : After-self-2-1) → at_places c.hold.new.list.items (take c.place-self-inside.result c.place-self-inside.new.order) ≡ placed context_cmp same_target 40 (get_or c.hold.new.list.items (get_or c.hold.new.order.items c.self.inside.count 0) [])
    (at_places c.hold.new.list.items (take c.self.inside.count c.hold.new.order.items)) (get_or c.hold.new.list.items (get_or c.hold.new.order.items c.self.inside.count 0) [])
way c =
    subst (λ (list : List (List Link)). at_places list (take c.place-self-inside.result c.place-self-inside.new.order) ≡ placed context_cmp same_target 40 (get_or list (get_or c.hold.new.order.items c.self.inside.count 0) [])
    (at_places list (take c.self.inside.count c.hold.new.order.items)) (get_or list (get_or c.hold.new.order.items c.self.inside.count 0) [])) c.as_slice.ensures.value
    (subst (λ (places : List ℕ). at_places c.as_slice.result.now (take c.place-self-inside.result c.place-self-inside.new.order) ≡ placed context_cmp same_target 40 (get_or c.as_slice.result.now (get_or places c.self.inside.count 0) [])
    (at_places c.as_slice.result.now (take c.self.inside.count places)) (get_or c.as_slice.result.now (get_or places c.self.inside.count 0) [])) c.as_mut_slice.ensures.value c.place-self-inside.ensures.items)

ranked_is : (c : After-self-2-1) → at_places c.hold.new.list.items (take c.place-self-inside.result (new_order c)) ≡ merged (at_places c.self.inside.list.items (take c.self.inside.count c.self.inside.order.items)) (c.args.c.now ∷ [])
ranked_is c =
    put_is (at_places c.self.inside.list.items (take c.self.inside.count c.self.inside.order.items)) c.args.c.now (get_or c.hold.new.list.items (get_or c.hold.new.order.items c.self.inside.count 0) [])
    (at_places c.hold.new.list.items (take c.self.inside.count c.hold.new.order.items)) (at_places c.hold.new.list.items (take c.place-self-inside.result (new_order c))) c.self.invariant.0 c.hold.ensures.held c.hold.ensures.same
    (ap (λ places. at_places c.hold.new.list.items (take c.place-self-inside.result places)) (order_is c) ∙ way c)

pub invariant_of-self : goal.invariant_of-self
invariant_of-self c = (
  subst IsRanked (sym (ranked_is c)) (best_is_ranked (at_places c.self.inside.list.items (take c.self.inside.count c.self.inside.order.items) ++ c.args.c.now ∷ [])),
  c.hold.ensures.room,
  shelf_moved c.hold.new.list.items c.hold.new.order.items (new_order c) c.self.inside.count c.place-self-inside.result c.hold.ensures.shelf (subst (IsPermutation c.hold.new.order.items) (sym (order_is c)) (moved c)) c.place-self-inside.ensures.few
      (omega (arith, c.place-self-inside.ensures.there, ap length (order_is c))),
)

pub returns : goal.returns
returns c = ranked_is c ∙ ap (λ (xs : List (List Link)). merged xs (c.args.c.now ∷ [])) c.self.view_is
