use Rattle.std.proofs.Common.{◌≡◌, ◌∙◌, ap, sym, fold, rules}
use Rattle.feature_reader.specs.Feature.{phrases_of}
use Rattle.feature_reader.specs.Collected.{after_members, with_phrase, with_own}
use Rattle.feature_reader.proofs.CollectedFacts.{feature_collected}
use Rattle.feature_reader.proofs.text_phrases.all_phrases.Goals as goal

pub returns : goal.returns
returns c =
    let ended : after_members (with_own c.args.replace.now c.args.langs.now c.args.cap) c.in_ok-collected.collected c.args.members.now ≡ c.into_phrases.result = search rules in
    λ own is. feature_collected c.args.replace.now c.args.langs.now c.args.cap c.args.text.now c.args.members.now own c.other_languages-others.result.bits c.in_ok-collected.collected c.into_phrases.result is c.other_languages-others.ensures
    (c.in_ok-collected.ensures ∙ ap (λ ps. fold with_phrase ps (phrases_of c.args.replace.now c.args.cap c.args.text.now c.other_languages-others.result.bits)) c.new.ensures) (sym ended)
