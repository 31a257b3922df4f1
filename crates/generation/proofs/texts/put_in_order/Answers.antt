use Rattle.std.proofs.Common.{◌≡◌, ◌∙◌, ℕ, List, map, ap, Bor}
use Rattle.std.specs.Prelude.{bytes_eq}
use Rattle.std.specs.List.{dedup}
use Rattle.std.proofs.lemmas.List.Filters.{dedup_is}
use Rattle.generation.proofs.TextFacts.{lent_rising}
use Rattle.generation.proofs.texts.put_in_order.Goals as goal

pub returns-clause-rising : goal.returns-clause-rising
returns-clause-rising c =
    let is : c.dedup.new.self.items ≡ dedup (λ a b. bytes_eq a.now b.now) c.sort_unstable.new.self.items = dedup_is _ _ _ c.dedup.ensures.filtered in
    ap (map (λ (t : Bor (List ℕ)). t.now)) is ∙ lent_rising (λ (t : Bor (List ℕ)). t.now) c.args.texts.now.items c.sort_unstable.new.self.items c.sort_unstable.ensures.permutation c.sort_unstable.ensures.sorted
