use Rattle.std.proofs.Common.{◌≡◌, ◌+◌, ◌++◌, ◌∷◌, [], ◌∙◌, List, take, sym, ap, subst, rules, arith}
use Rattle.std.proofs.lemmas.List.{take_more}
use Rattle.feature_reader.specs.Collected.{AreSeen}
use Rattle.feature_reader.specs.declared.phrase.Phrase.{Phrase}
use Rattle.feature_reader.proofs.CollectedFacts.{seen_with}
use Rattle.feature_reader.proofs.text_phrases.keys_of.Goals as goal

pub loop-phrase-preserved : goal.loop-phrase-preserved
loop-phrase-preserved c =
    let before : List Phrase = take c.loop-phrase.phrase-index c.args.phrases.now in
    let more : take (c.loop-phrase.phrase-index + 1) c.args.phrases.now ≡ before ++ c.phrase-item.result ∷ [] = search (rules, arith, take_more) in
    subst (λ (ps : List Phrase). AreSeen c.insert.new.self ps) (ap (λ p. before ++ p ∷ []) c.in_ok-key_of.ensures ∙ sym more)
    (seen_with c.loop-phrase.seen c.insert.new.self before c.in_ok-key_of.field-0 c.loop-phrase.invariant c.in_ok-_new.ensures.updates)
