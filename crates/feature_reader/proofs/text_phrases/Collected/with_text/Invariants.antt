use Rattle.std.proofs.Common.{◌≡◌, fold, length}
use denote.Shadow.{shadow}
use denote.Text.{Utf8}
use Rattle.geo_text.specs.Parts.{pieces}
use Rattle.feature_reader.specs.Feature.{phrases_of}
use Rattle.feature_reader.specs.Collected.{with_phrase, with_piece}
use Rattle.feature_reader.proofs.CollectedFacts.{tokens_in}
use Rattle.feature_reader.proofs.text_phrases.Collected.with_text.Given as goal

-- with the pieces that are left the phrases so far are all
abbrev pub invariant-loop-piece : goal.invariant-loop-piece
invariant-loop-piece l = record {
  all : fold with_phrase l.fn.self (phrases_of l.fn.replace l.fn.cap l.fn.text l.fn.set.bits) ≡ (fold (with_piece l.fn.set.bits l.fn.cap) (l.collected, l.relev) (tokens_in l.fn.replace (pieces l.rest))).0;
  text : shadow (Utf8 l.rest);
}

abbrev pub decreases-loop-piece : goal.decreases-loop-piece
decreases-loop-piece l = length l.rest
