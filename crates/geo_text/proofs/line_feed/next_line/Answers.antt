use Rattle.std.proofs.Common.{◌≡◌, ◌∙◌, ◌+◌, ◌++◌, ◌∷◌, ◌==◌, Some, take, position, ap, sym, rules}
use Rattle.geo_text.proofs.LineFeeds.{at_line_feed, no_line_feed}
use Rattle.geo_text.proofs.SplitParts.{rest_is}
use Rattle.geo_text.proofs.line_feed.next_line.Goals as goal

pub returns-in-Some : goal.returns-in-Some
returns-in-Some c =
    let found : position (λ b. b == 10) c.args.bytes.now ≡ Some c.in-Some.at = search rules in
    let parts = at_line_feed c.args.bytes.now c.in-Some.at found in
    (parts.0, parts.1 ∙ ap (λ l. take c.in-Some.at c.args.bytes.now ++ 10 ∷ l) (sym (rest_is (c.in-Some.at + 1) c.args.bytes.now)))

pub returns-in-None : goal.returns-in-None
returns-in-None c = no_line_feed c.args.bytes.now (search rules)
