use Rattle.std.proofs.Common.{◌≡◌, List, refl}
use Rattle.session_text.specs.declared.body.LineKind.TheVariants as kind
use Rattle.session_text.proofs.CarriedFacts.{first_is, next_as, next_there, taken_out}
use Rattle.session_text.proofs.body.Round.next.Goals as goal

pub invariant_of-self-in_err-feature-in-Put : goal.invariant_of-self-in_err-feature-in-Put
invariant_of-self-in_err-feature-in-Put c = absurd (taken_out c.self.inside.features.items c.pop_front-in-Put.new.self.items (next_there (kind.Put c.in-Put.layer) c.pop_front.new.self.items c.self.inside.features.items c.self.inside.texts.items c.self.inside.events.items c.self.invariant.0 (first_is c.self.invariant.0 (kind.Put c.in-Put.layer) c.in_ok-layer.field-0 c.self.inside.lines.items c.pop_front.new.self.items c.self.inside.features.items c.self.inside.texts.items c.self.inside.events.items c.in_ok-layer.ensures.items c.in-Put.is c.self.invariant.1)).0 c.in_err-feature-in-Put.ensures.items c.in_err-feature-in-Put.ensures.rest)

pub invariant_of-self-in-Put : goal.invariant_of-self-in-Put
invariant_of-self-in-Put c = next_as c.self.invariant.0 (kind.Put c.in-Put.layer) c.pop_front.new.self.items c.self.inside.features.items c.pop_front-in-Put.new.self.items c.self.inside.texts.items c.self.inside.texts.items c.self.inside.events.items c.self.inside.events.items (first_is c.self.invariant.0 (kind.Put c.in-Put.layer) c.in_ok-layer.field-0 c.self.inside.lines.items c.pop_front.new.self.items c.self.inside.features.items c.self.inside.texts.items c.self.inside.events.items c.in_ok-layer.ensures.items c.in-Put.is c.self.invariant.1)
    c.in_ok-feature-in-Put.ensures.rest refl refl

pub invariant_of-self-in-Drop : goal.invariant_of-self-in-Drop
invariant_of-self-in-Drop c = next_as c.self.invariant.0 (kind.Drop c.in-Drop.layer c.in-Drop.id) c.pop_front.new.self.items c.self.inside.features.items c.self.inside.features.items c.self.inside.texts.items c.self.inside.texts.items c.self.inside.events.items c.self.inside.events.items (first_is c.self.invariant.0 (kind.Drop c.in-Drop.layer c.in-Drop.id) c.in_ok-layer.field-0 c.self.inside.lines.items c.pop_front.new.self.items c.self.inside.features.items c.self.inside.texts.items c.self.inside.events.items c.in_ok-layer.ensures.items c.in-Drop.is c.self.invariant.1)
    refl refl refl

pub invariant_of-self-in-Load : goal.invariant_of-self-in-Load
invariant_of-self-in-Load c = next_as c.self.invariant.0 (kind.Load c.in-Load.feed c.in-Load.layer) c.pop_front.new.self.items c.self.inside.features.items c.self.inside.features.items c.self.inside.texts.items c.self.inside.texts.items c.self.inside.events.items c.self.inside.events.items (first_is c.self.invariant.0 (kind.Load c.in-Load.feed c.in-Load.layer) c.in_ok-layer.field-0 c.self.inside.lines.items c.pop_front.new.self.items c.self.inside.features.items c.self.inside.texts.items c.self.inside.events.items c.in_ok-layer.ensures.items c.in-Load.is c.self.invariant.1)
    refl refl refl

pub invariant_of-self-in-Limit : goal.invariant_of-self-in-Limit
invariant_of-self-in-Limit c = next_as c.self.invariant.0 (kind.Limit c.in-Limit.n) c.pop_front.new.self.items c.self.inside.features.items c.self.inside.features.items c.self.inside.texts.items c.self.inside.texts.items c.self.inside.events.items c.self.inside.events.items (first_is c.self.invariant.0 (kind.Limit c.in-Limit.n) c.in_ok-layer.field-0 c.self.inside.lines.items c.pop_front.new.self.items c.self.inside.features.items c.self.inside.texts.items c.self.inside.events.items c.in_ok-layer.ensures.items c.in-Limit.is c.self.invariant.1)
    refl refl refl

pub invariant_of-self-in-Publish : goal.invariant_of-self-in-Publish
invariant_of-self-in-Publish c = next_as c.self.invariant.0 (kind.Publish) c.pop_front.new.self.items c.self.inside.features.items c.self.inside.features.items c.self.inside.texts.items c.self.inside.texts.items c.self.inside.events.items c.self.inside.events.items (first_is c.self.invariant.0 (kind.Publish) c.in_ok-layer.field-0 c.self.inside.lines.items c.pop_front.new.self.items c.self.inside.features.items c.self.inside.texts.items c.self.inside.events.items c.in_ok-layer.ensures.items c.in-Publish.is c.self.invariant.1)
    refl refl refl

pub invariant_of-self-in_err-text-in-Ask : goal.invariant_of-self-in_err-text-in-Ask
invariant_of-self-in_err-text-in-Ask c = absurd (taken_out c.self.inside.texts.items c.pop_front-in-Ask.new.self.items (next_there (kind.Ask c.in-Ask.lane) c.pop_front.new.self.items c.self.inside.features.items c.self.inside.texts.items c.self.inside.events.items c.self.invariant.0 (first_is c.self.invariant.0 (kind.Ask c.in-Ask.lane) c.in_ok-layer.field-0 c.self.inside.lines.items c.pop_front.new.self.items c.self.inside.features.items c.self.inside.texts.items c.self.inside.events.items c.in_ok-layer.ensures.items c.in-Ask.is c.self.invariant.1)).1 c.in_err-text-in-Ask.ensures.items c.in_err-text-in-Ask.ensures.rest)

pub invariant_of-self-in-Ask : goal.invariant_of-self-in-Ask
invariant_of-self-in-Ask c = next_as c.self.invariant.0 (kind.Ask c.in-Ask.lane) c.pop_front.new.self.items c.self.inside.features.items c.self.inside.features.items c.self.inside.texts.items c.pop_front-in-Ask.new.self.items c.self.inside.events.items c.self.inside.events.items (first_is c.self.invariant.0 (kind.Ask c.in-Ask.lane) c.in_ok-layer.field-0 c.self.inside.lines.items c.pop_front.new.self.items c.self.inside.features.items c.self.inside.texts.items c.self.inside.events.items c.in_ok-layer.ensures.items c.in-Ask.is c.self.invariant.1)
    refl c.in_ok-text-in-Ask.ensures.rest refl

pub invariant_of-self-in_err-text-in-Explain : goal.invariant_of-self-in_err-text-in-Explain
invariant_of-self-in_err-text-in-Explain c = absurd (taken_out c.self.inside.texts.items c.pop_front-in-Explain.new.self.items (next_there (kind.Explain) c.pop_front.new.self.items c.self.inside.features.items c.self.inside.texts.items c.self.inside.events.items c.self.invariant.0 (first_is c.self.invariant.0 (kind.Explain) c.in_ok-layer.field-0 c.self.inside.lines.items c.pop_front.new.self.items c.self.inside.features.items c.self.inside.texts.items c.self.inside.events.items c.in_ok-layer.ensures.items c.in-Explain.is c.self.invariant.1)).1 c.in_err-text-in-Explain.ensures.items c.in_err-text-in-Explain.ensures.rest)

pub invariant_of-self-in-Explain : goal.invariant_of-self-in-Explain
invariant_of-self-in-Explain c = next_as c.self.invariant.0 (kind.Explain) c.pop_front.new.self.items c.self.inside.features.items c.self.inside.features.items c.self.inside.texts.items c.pop_front-in-Explain.new.self.items c.self.inside.events.items c.self.inside.events.items (first_is c.self.invariant.0 (kind.Explain) c.in_ok-layer.field-0 c.self.inside.lines.items c.pop_front.new.self.items c.self.inside.features.items c.self.inside.texts.items c.self.inside.events.items c.in_ok-layer.ensures.items c.in-Explain.is c.self.invariant.1)
    refl c.in_ok-text-in-Explain.ensures.rest refl

pub invariant_of-self-in_err-events-in-Replay : goal.invariant_of-self-in_err-events-in-Replay
invariant_of-self-in_err-events-in-Replay c = absurd (taken_out c.self.inside.events.items c.pop_front-in-Replay.new.self.items (next_there (kind.Replay) c.pop_front.new.self.items c.self.inside.features.items c.self.inside.texts.items c.self.inside.events.items c.self.invariant.0 (first_is c.self.invariant.0 (kind.Replay) c.in_ok-layer.field-0 c.self.inside.lines.items c.pop_front.new.self.items c.self.inside.features.items c.self.inside.texts.items c.self.inside.events.items c.in_ok-layer.ensures.items c.in-Replay.is c.self.invariant.1)).2 c.in_err-events-in-Replay.ensures.items c.in_err-events-in-Replay.ensures.rest)

pub invariant_of-self-in_err-text-in-Replay : goal.invariant_of-self-in_err-text-in-Replay
invariant_of-self-in_err-text-in-Replay c = absurd (taken_out c.self.inside.texts.items c.pop_front-in-Replay-2.new.self.items (next_there (kind.Replay) c.pop_front.new.self.items c.self.inside.features.items c.self.inside.texts.items c.self.inside.events.items c.self.invariant.0 (first_is c.self.invariant.0 (kind.Replay) c.in_ok-layer.field-0 c.self.inside.lines.items c.pop_front.new.self.items c.self.inside.features.items c.self.inside.texts.items c.self.inside.events.items c.in_ok-layer.ensures.items c.in-Replay.is c.self.invariant.1)).1 c.in_err-text-in-Replay.ensures.items c.in_err-text-in-Replay.ensures.rest)

pub invariant_of-self-in-Replay : goal.invariant_of-self-in-Replay
invariant_of-self-in-Replay c = next_as c.self.invariant.0 (kind.Replay) c.pop_front.new.self.items c.self.inside.features.items c.self.inside.features.items c.self.inside.texts.items c.pop_front-in-Replay-2.new.self.items c.self.inside.events.items c.pop_front-in-Replay.new.self.items (first_is c.self.invariant.0 (kind.Replay) c.in_ok-layer.field-0 c.self.inside.lines.items c.pop_front.new.self.items c.self.inside.features.items c.self.inside.texts.items c.self.inside.events.items c.in_ok-layer.ensures.items c.in-Replay.is c.self.invariant.1)
    refl c.in_ok-text-in-Replay.ensures.rest c.in_ok-events-in-Replay.ensures.rest
