use Rattle.std.proofs.Common.{◌≡◌, ◌∙◌, ◌++◌, ◌-◌, ◌≤◌, ◌<◌, ℕ, List, length, take, ap, sym, subst, rules, arith}
use Rattle.std.specs.Prelude.{slice_range}
use Rattle.std.proofs.lemmas.List.{length-take-le}
use Rattle.geo_text.specs.Bytes.{NoLineFeed}
use Rattle.feature_feed.proofs.FeedLines.{block_kept}
use Rattle.feature_feed.proofs.line_buffer.LineBuffer.read.Goals as goal

pub invariant_of-self-in_default : goal.invariant_of-self-in_default
invariant_of-self-in_default g c =
    let b = c.self.inside in
    let grown : c.extend_from_slice.new.self.items ≡ b.begun.items ++ slice_range b.block.items b.from b.end = search rules in
    let whole : length b.block.items ≡ b.block.len = search rules in
    let same : length c.read_block.new.block ≡ length b.block.items = search rules in
    let i = c.self.invariant in
    subst (λ (l : List ℕ). NoLineFeed c.extend_from_slice.new.self.items × (0 ≤ 0) × (0 ≤ length l) × (0 < length l)) (sym (block_kept b.block.items c.read_block.new.block b.block.len whole same))
    (subst NoLineFeed (sym (grown ∙ c.self.view_is)) c.requires.open, omega arith, omega arith, omega (arith, same, i.3))

pub invariant_of-self-2 : goal.invariant_of-self-2
invariant_of-self-2 g c =
    let b = c.self.inside in
    let grown : c.extend_from_slice.new.self.items ≡ b.begun.items ++ slice_range b.block.items b.from b.end = search rules in
    let whole : length b.block.items ≡ b.block.len = search rules in
    let same : length c.read_block.new.block ≡ length b.block.items = search rules in
    let i = c.self.invariant in
    subst (λ (l : List ℕ). NoLineFeed c.extend_from_slice.new.self.items × (0 ≤ c.in-Ok.n) × (c.in-Ok.n ≤ length l) × (0 < length l)) (sym (block_kept b.block.items c.read_block.new.block b.block.len whole same))
    (subst NoLineFeed (sym (grown ∙ c.self.view_is)) c.requires.open, omega arith, c.in-Ok.ensures.front.1, omega (arith, same, i.3))

pub returns-clause-more : goal.returns-clause-more
returns-clause-more g c =
    let b = c.self.inside in
    let n = c.in-Ok.n in
    let grown : c.extend_from_slice.new.self.items ≡ b.begun.items ++ slice_range b.block.items b.from b.end = search rules in
    let whole : length b.block.items ≡ b.block.len = search rules in
    let same : length c.read_block.new.block ≡ length b.block.items = search rules in
    let kept = block_kept b.block.items c.read_block.new.block b.block.len whole same in
    let front = c.in-Ok.ensures.front in
    let less : n ≡ n - 0 = omega arith in (
      take n c.read_block.new.block,
      front.2,
      ap (λ (l : List ℕ). c.extend_from_slice.new.self.items ++ take (n - 0) l) kept ∙ ap (λ k. c.extend_from_slice.new.self.items ++ take k c.read_block.new.block) (sym less) ∙ ap (λ (l : List ℕ). l ++ take n c.read_block.new.block) (grown ∙ c.self.view_is),
      length-take-le n c.read_block.new.block front.1,
      front.0,
      front.3,
    )
