use Rattle.std.proofs.Common.{◌∙◌, refl, ap, sym, rules, tests}
use Rattle.std.specs.Prelude.{is_some}
use Rattle.std.specs.List.{list_all}
use Rattle.std.proofs.lemmas.Iterator.Consumers.{YieldsList-from_rest}
use Rattle.std.proofs.lemmas.Iterator.Search.{all_from_yields_List}
use Rattle.std.proofs.lemmas.List.Folds.{list_all-map}
use Rattle.feature_json.specs.Own.{own_entry}
use Rattle.feature_reader.specs.Collected.{own_text}
use Rattle.feature_reader.proofs.CollectedFacts.{string_members}
use Rattle.feature_reader.proofs.own_texts.are_strings.Goals as goal

pub returns : goal.returns
returns c =
    all_from_yields_List (λ m. is_some (own_text (own_entry m))) _ _ c.all.result c.all.ensures.ran (YieldsList-from_rest c.entries.result refl) (λ x b q called. search (rules, tests))
    ∙ sym (list_all-map (λ m. is_some (own_text m)) own_entry c.entries.result)
    ∙ ap (list_all (λ m. is_some (own_text m))) c.entries.ensures
    ∙ string_members c.args.members.now
