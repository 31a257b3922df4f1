use Rattle.std.proofs.Common.{◌∙◌, ℕ, List, map, sym, ap, subst, Bor}
use Rattle.phrase_index.specs.Phrases.{Rise}
use Rattle.generation.proofs.TextFacts.{texts_rise}
use Rattle.generation.proofs.texts.phrases_of.Goals as goal

pub of-requires-clause-rise : goal.of-requires-clause-rise
of-requires-clause-rise c =
    subst Rise (sym (ap (map (λ (t : Bor (List ℕ)). t.now)) c.as_slice.ensures.value ∙ c.put_in_order.ensures.rising)) (texts_rise (map (λ (t : Bor (List ℕ)). t.now) c.in_ok-texts.texts.items))
