use Rattle.std.proofs.Common.{◌≡◌, ◌++◌, option_map, length}
use Rattle.geo_text.specs.Words.{words_of}
use Rattle.session_text.specs.Events.{events_of}
use Rattle.session_text.proofs.events.read_events.Given as goal

-- the events so far and those of the words that are left are those of all words
abbrev pub invariant-loop-word : goal.invariant-loop-word
invariant-loop-word l = option_map (λ es. l.events ++ es) (events_of (words_of l.rest)) ≡ events_of (words_of l.text)

abbrev pub decreases-loop-word : goal.decreases-loop-word
decreases-loop-word l = length l.rest
