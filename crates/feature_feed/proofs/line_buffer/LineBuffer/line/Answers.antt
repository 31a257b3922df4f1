use Rattle.std.proofs.Common.{◌≡◌, ◌++◌, ◌∷◌, ◌+◌, [], refl, subst, rules}
use Rattle.std.specs.Prelude.{slice_range}
use Rattle.geo_text.specs.Bytes.{NoLineFeed}
use Rattle.geo_text.proofs.LineFeeds.{no_line_feed_append}
use Rattle.feature_feed.proofs.FeedLines.{taken_off}
use Rattle.feature_feed.proofs.line_buffer.LineBuffer.line.Goals as goal

pub returns-in_default-clause-line : goal.returns-in_default-clause-line
returns-in_default-clause-line c =
    let none : NoLineFeed (slice_range c.self.inside.block.items c.self.inside.from c.self.inside.end) = subst (λ b. NoLineFeed (slice_range b c.self.inside.from c.self.inside.end)) c.deref.ensures.value c.in_default.ensures in
    (subst NoLineFeed c.self.view_is (no_line_feed_append _ _ c.self.invariant.0 none), refl)

pub returns-clause-line : goal.returns-clause-line
returns-clause-line c =
    let b = c.self.inside in
    let part = c.in-Some.part.now in
    let more = c.in-Some._behind.now in
    let is : slice_range b.block.items b.from b.end ≡ part ++ 10 ∷ more = subst (λ l. slice_range l b.from b.end ≡ part ++ 10 ∷ more) c.deref.ensures.value c.in-Some.ensures.1 in
    let empty : c.replace-line.new.dest.items ≡ [] = search rules in
    let text : c.replace-line.result.items ≡ b.begun.items ++ part = search rules in (
      b.begun.items ++ part,
      no_line_feed_append _ _ c.self.invariant.0 c.in-Some.ensures.0,
      taken_off c.args.self.now b.begun.items part more b.block.items c.replace-line.new.dest.items b.from b.end c.self.view_is is c.self.invariant.1 c.self.invariant.2 empty,
      rw (← text) c.without_return.ensures,
    )
