use Rattle.std.proofs.Common.{◌≡◌, ◌≢◌, ◌∙◌, ◌==◌, ℕ, false, length, ap, sym, arith, rules}
use Rattle.feature_feed.specs.JsonLines.{lines_left, onto}
use Rattle.feature_feed.proofs.LinesLeft.{last_taken}
use Rattle.feature_feed.proofs.source_lines.SourceLines.last.Goals as goal

pub returns-clause-line : goal.returns-clause-line
returns-clause-line g c =
    let s = c.args.self.now in
    let text = c.in-Ok.text.items in
    let some : (length text == 0) ≡ false = search rules in
    last_taken s.buffer text s.room s.source.left c.requires.open c.in-Ok.ensures.text c.requires.room some ∙ ap (λ l. onto text (lines_left l s.room s.source.left)) (sym c.in-Ok.ensures.rest)

pub returns-clause-fewer : goal.returns-clause-fewer
returns-clause-fewer g c =
    let any : length c.in-Ok.text.items ≢ 0 = search rules in
    omega (arith, ap (length {A = ℕ}) c.in-Ok.ensures.rest, ap (length {A = ℕ}) c.in-Ok.ensures.text, any)
