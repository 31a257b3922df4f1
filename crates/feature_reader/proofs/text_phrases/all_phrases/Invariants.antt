use Rattle.std.proofs.Common.{◌≡◌, map}
use Rattle.feature_json.specs.Own.{own_entry}
use Rattle.feature_reader.specs.Collected.{after_members, with_own}
use Rattle.feature_reader.proofs.text_phrases.all_phrases.Given as goal

-- with the members that are left the phrases so far are all
abbrev pub invariant-loop-name : goal.invariant-loop-name
invariant-loop-name l = after_members (with_own l.fn.replace l.fn.langs l.fn.cap) l.initial.collected l.fn.members ≡ after_members (with_own l.fn.replace l.fn.langs l.fn.cap) l.collected (map own_entry l.name-iterator)
