use Rattle.std.proofs.Common.{◌++◌, ◌∷◌, [], ◌∙◌, List, sym, ap, subst}
use Rattle.feature_reader.specs.Collected.{AreSeen}
use Rattle.feature_reader.specs.declared.phrase.Phrase.{Phrase}
use Rattle.feature_reader.proofs.CollectedFacts.{seen_with}
use Rattle.feature_reader.proofs.text_phrases.with_looked_up.Goals as goal

pub invariant_of-result : goal.invariant_of-result
invariant_of-result c =
    subst (λ (ps : List Phrase). AreSeen c.insert.new.self ps) (ap (λ p. c.args.phrases ++ p ∷ []) c.in_ok-key_of.ensures ∙ sym c.in_ok-push.ensures.ok)
    (seen_with c.args.seen c.insert.new.self c.args.phrases c.in_ok-key_of.field-0 c.requires c.in_ok-insert.ensures.updates)
