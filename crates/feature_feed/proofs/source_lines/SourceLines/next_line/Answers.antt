use Rattle.std.proofs.Common.{◌≡◌, ◌∙◌, ◌+◌, ◌∷◌, ℕ, length, ap, sym, arith}
use Rattle.std.proofs.lemmas.List.{length-append}
use Rattle.feature_feed.proofs.LinesLeft.{line_taken}
use Rattle.feature_feed.proofs.source_lines.SourceLines.next_line.Goals as goal

pub returns-in-Some-clause-line : goal.returns-in-Some-clause-line
returns-in-Some-clause-line g c =
    let s = c.loop-line.self in
    let took = rw c.in-Some.is at c.in-Ok.ensures.line in
    sym c.loop-line.invariant.lines ∙ line_taken s.buffer took.0 c.line.new.self c.in-Some.text.items s.room s.source.left took.1 took.2 took.3

pub returns-in-Some-clause-fewer : goal.returns-in-Some-clause-fewer
returns-in-Some-clause-fewer g c =
    let took = rw c.in-Some.is at c.in-Ok.ensures.line in
    let count : length c.loop-line.self.buffer ≡ length took.0 + length (10 ∷ c.line.new.self) = ap (length {A = ℕ}) took.2 ∙ length-append took.0 _ in
    omega (arith, count, c.loop-line.invariant.most)
