use Rattle.std.proofs.Common.{◌≡◌, length, is_some}
use Rattle.geo_text.specs.Words.{words_of}
use Rattle.session_text.specs.Events.{events_of}
use Rattle.session_text.proofs.events.are_events.Given as goal

-- the words so far are events: all words are where the rest are
abbrev pub invariant-loop-word : goal.invariant-loop-word
invariant-loop-word l = is_some (events_of (words_of l.text)) ≡ is_some (events_of (words_of l.rest))

abbrev pub decreases-loop-word : goal.decreases-loop-word
decreases-loop-word l = length l.rest
