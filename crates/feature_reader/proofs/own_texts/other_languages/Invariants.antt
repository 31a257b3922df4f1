use Rattle.std.proofs.Common.{◌≡◌, map}
use Rattle.feature_json.specs.Own.{own_entry}
use Rattle.feature_reader.specs.Languages.{all_languages}
use Rattle.feature_reader.specs.Collected.{after_members, without_language}
use Rattle.feature_reader.proofs.own_texts.other_languages.Given as goal

-- with the members that are left the languages so far are all
abbrev pub invariant-loop-name : goal.invariant-loop-name
invariant-loop-name l = after_members (without_language l.fn.langs) all_languages l.fn.members ≡ after_members (without_language l.fn.langs) l.set.bits (map own_entry l.name-iterator)
