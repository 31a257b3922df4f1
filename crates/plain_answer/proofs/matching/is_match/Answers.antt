use Rattle.std.proofs.Common.{◌≡◌, ◌∙◌, ◌++◌, ℕ, List, refl, sym, ap, true, false, length, rules}
use Rattle.std.specs.Prelude.{◌&&◌, ◌||◌, ◌==◌}
use Rattle.plain_answer.specs.Match.{run_text}
use Rattle.plain_answer.proofs.Begins.{matches-found, matches-not_found}
use Rattle.plain_answer.proofs.matching.is_match.Goals as goal

pub returns-then-is_empty : goal.returns-then-is_empty
returns-then-is_empty c =
    let found : c.args.phrase.now ≡ run_text c.args.tokens.now c.args.from c.args.to ++ c.in-Some.rest.now = search rules in
    let none_left : (length c.in-Some.rest.now == 0) ≡ c.is_empty.result = sym c.is_empty.ensures in
    let is = matches-found c.args.tokens.now c.args.auto c.args.from c.args.to c.args.phrase.now c.in-Some.rest.now found in
    sym (is ∙ ap (λ b. b || (c.args.auto && (c.args.to == length c.args.tokens.now))) none_left ∙ rw c.if-is_empty.true refl)

pub returns-then-auto : goal.returns-then-auto
returns-then-auto c =
    let found : c.args.phrase.now ≡ run_text c.args.tokens.now c.args.from c.args.to ++ c.in-Some.rest.now = search rules in
    let some_left : (length c.in-Some.rest.now == 0) ≡ false = sym c.is_empty.ensures ∙ c.if-is_empty.false in
    let auto : c.args.auto ≡ true = search rules in
    let is = matches-found c.args.tokens.now c.args.auto c.args.from c.args.to c.args.phrase.now c.in-Some.rest.now found in
    sym (is ∙ ap (λ b. b || (c.args.auto && (c.args.to == length c.args.tokens.now))) some_left ∙ rw auto refl)

pub returns-in-None : goal.returns-in-None
returns-in-None c =
    let phrase : c.as_bytes.result.now ≡ c.args.phrase.now = search rules in
    let none : (rest : List ℕ) → c.args.phrase.now ≡ run_text c.args.tokens.now c.args.from c.args.to ++ rest → ⊥ = λ rest is. c.in-None.ensures rest (rw phrase is) in
    sym (matches-not_found c.args.tokens.now c.args.auto c.args.from c.args.to c.args.phrase.now none)
