-- Merging the workers' lists in turn gives the best of all of them.
use Rattle.std.proofs.Common.{◌≡◌, List, [], ◌∷◌, ◌++◌, sym, ◌∙◌, ap, append-nil, append_assoc}
use Rattle.std.specs.Prelude.{flat_map}
use Rattle.geo_base.specs.declared.link.Link.{Link}
use Rattle.geo_base.specs.Order.{context_cmp, same_target}
use Rattle.geo_base.specs.Best.{best_of}
use Rattle.geo_base.proofs.OrderLaws.{context_cmp_total}
use Rattle.geo_base.proofs.AnswerFacts.{same_target_equiv}
use Rattle.geo_base.proofs.MergeFacts.{best_of_best_and}
use Rattle.top_list.specs.Ranked.{IsRanked}
use Rattle.top_list.proofs.PlacedFacts.{best_of_itself}
use Rattle.search_core.specs.Machine.{WorkerState}
use Rattle.search_core.specs.Merging.{merged_tops}

-- into the best of some contexts
tops_are_best : (ws : List WorkerState) (xs : List (List Link)) → merged_tops (best_of context_cmp same_target 40 xs) ws ≡ best_of context_cmp same_target 40 (xs ++ flat_map (λ w. w.top) ws)
tops_are_best [] xs = ap (λ zs. best_of context_cmp same_target 40 zs) (sym (append-nil xs))
tops_are_best (w ∷ ws) xs =
    ap (λ t. merged_tops t ws) (best_of_best_and context_cmp_total same_target_equiv 40 xs w.top)
    ∙ (tops_are_best ws (xs ++ w.top) ∙ ap (λ zs. best_of context_cmp same_target 40 zs) (append_assoc xs w.top (flat_map (λ v. v.top) ws)))

-- into a new list
pub into_new : (ws : List WorkerState) → merged_tops [] ws ≡ best_of context_cmp same_target 40 (flat_map (λ w. w.top) ws)
into_new ws = tops_are_best ws []

-- into a list of the best
pub into_list : (top : List (List Link)) (ws : List WorkerState) → IsRanked top → merged_tops top ws ≡ best_of context_cmp same_target 40 (top ++ flat_map (λ w. w.top) ws)
into_list top ws is = ap (λ t. merged_tops t ws) (sym (best_of_itself top is)) ∙ tops_are_best ws top
