use Rattle.std.proofs.Common.{◌≡◌, ◌∙◌, List, [], ◌∷◌, ◌++◌, sym, ap, append-nil}
use Rattle.session_text.specs.declared.body.BodyLine.TheVariants as body
use Rattle.session_text.specs.Carried.{kind_of}
use Rattle.session_text.proofs.CarriedFacts.{push_kept, push_view}
use Rattle.session_text.proofs.body.Round.push.Goals as goal

pub invariant_of-self-in-Put : goal.invariant_of-self-in-Put
invariant_of-self-in-Put c = push_kept c.self.invariant.0 c.self.inside.lines.items c.push_back_reserved.new.self.items c.self.inside.features.items c.push_back.new.self.items c.self.inside.texts.items c.self.inside.texts.items c.self.inside.events.items c.self.inside.events.items (body.Put c.in-Put.layer c.in-Put.feature) c.self.invariant.1
    (c.push_back_reserved.ensures.items ∙ ap (λ ks. ks ++ kind_of (body.Put c.in-Put.layer c.in-Put.feature) ∷ []) c.in_ok-reserve.ensures.items) (c.in_ok-push_back-in-Put.ensures.items) (sym (append-nil _)) (sym (append-nil _))

pub returns-in_ok-push_back-in-Put-clause-ok : goal.returns-in_ok-push_back-in-Put-clause-ok
returns-in_ok-push_back-in-Put-clause-ok c = push_view c.self.invariant.0 c.self.inside.lines.items c.push_back_reserved.new.self.items c.self.inside.features.items c.push_back.new.self.items c.self.inside.texts.items c.self.inside.texts.items c.self.inside.events.items c.self.inside.events.items (body.Put c.in-Put.layer c.in-Put.feature) c.self.invariant.1
    (c.push_back_reserved.ensures.items ∙ ap (λ ks. ks ++ kind_of (body.Put c.in-Put.layer c.in-Put.feature) ∷ []) c.in_ok-reserve.ensures.items) (c.in_ok-push_back-in-Put.ensures.items) (sym (append-nil _)) (sym (append-nil _)) c.args.self.now c.self.view_is ∙ ap (λ l. c.args.self.now ++ l ∷ []) (sym c.in-Put.is)

pub invariant_of-self-in-Drop : goal.invariant_of-self-in-Drop
invariant_of-self-in-Drop c = push_kept c.self.invariant.0 c.self.inside.lines.items c.push_back_reserved-in-Drop.new.self.items c.self.inside.features.items c.self.inside.features.items c.self.inside.texts.items c.self.inside.texts.items c.self.inside.events.items c.self.inside.events.items (body.Drop c.in-Drop.layer c.in-Drop.id) c.self.invariant.1
    (c.push_back_reserved-in-Drop.ensures.items ∙ ap (λ ks. ks ++ kind_of (body.Drop c.in-Drop.layer c.in-Drop.id) ∷ []) c.in_ok-reserve.ensures.items) (sym (append-nil _)) (sym (append-nil _)) (sym (append-nil _))

pub returns-in-Drop-clause-ok : goal.returns-in-Drop-clause-ok
returns-in-Drop-clause-ok c = push_view c.self.invariant.0 c.self.inside.lines.items c.push_back_reserved-in-Drop.new.self.items c.self.inside.features.items c.self.inside.features.items c.self.inside.texts.items c.self.inside.texts.items c.self.inside.events.items c.self.inside.events.items (body.Drop c.in-Drop.layer c.in-Drop.id) c.self.invariant.1
    (c.push_back_reserved-in-Drop.ensures.items ∙ ap (λ ks. ks ++ kind_of (body.Drop c.in-Drop.layer c.in-Drop.id) ∷ []) c.in_ok-reserve.ensures.items) (sym (append-nil _)) (sym (append-nil _)) (sym (append-nil _)) c.args.self.now c.self.view_is ∙ ap (λ l. c.args.self.now ++ l ∷ []) (sym c.in-Drop.is)

pub invariant_of-self-in-Load : goal.invariant_of-self-in-Load
invariant_of-self-in-Load c = push_kept c.self.invariant.0 c.self.inside.lines.items c.push_back_reserved-in-Load.new.self.items c.self.inside.features.items c.self.inside.features.items c.self.inside.texts.items c.self.inside.texts.items c.self.inside.events.items c.self.inside.events.items (body.Load c.in-Load.feed c.in-Load.layer) c.self.invariant.1
    (c.push_back_reserved-in-Load.ensures.items ∙ ap (λ ks. ks ++ kind_of (body.Load c.in-Load.feed c.in-Load.layer) ∷ []) c.in_ok-reserve.ensures.items) (sym (append-nil _)) (sym (append-nil _)) (sym (append-nil _))

pub returns-in-Load-clause-ok : goal.returns-in-Load-clause-ok
returns-in-Load-clause-ok c = push_view c.self.invariant.0 c.self.inside.lines.items c.push_back_reserved-in-Load.new.self.items c.self.inside.features.items c.self.inside.features.items c.self.inside.texts.items c.self.inside.texts.items c.self.inside.events.items c.self.inside.events.items (body.Load c.in-Load.feed c.in-Load.layer) c.self.invariant.1
    (c.push_back_reserved-in-Load.ensures.items ∙ ap (λ ks. ks ++ kind_of (body.Load c.in-Load.feed c.in-Load.layer) ∷ []) c.in_ok-reserve.ensures.items) (sym (append-nil _)) (sym (append-nil _)) (sym (append-nil _)) c.args.self.now c.self.view_is ∙ ap (λ l. c.args.self.now ++ l ∷ []) (sym c.in-Load.is)

pub invariant_of-self-in-Limit : goal.invariant_of-self-in-Limit
invariant_of-self-in-Limit c = push_kept c.self.invariant.0 c.self.inside.lines.items c.push_back_reserved-in-Limit.new.self.items c.self.inside.features.items c.self.inside.features.items c.self.inside.texts.items c.self.inside.texts.items c.self.inside.events.items c.self.inside.events.items (body.Limit c.in-Limit.n) c.self.invariant.1
    (c.push_back_reserved-in-Limit.ensures.items ∙ ap (λ ks. ks ++ kind_of (body.Limit c.in-Limit.n) ∷ []) c.in_ok-reserve.ensures.items) (sym (append-nil _)) (sym (append-nil _)) (sym (append-nil _))

pub returns-in-Limit-clause-ok : goal.returns-in-Limit-clause-ok
returns-in-Limit-clause-ok c = push_view c.self.invariant.0 c.self.inside.lines.items c.push_back_reserved-in-Limit.new.self.items c.self.inside.features.items c.self.inside.features.items c.self.inside.texts.items c.self.inside.texts.items c.self.inside.events.items c.self.inside.events.items (body.Limit c.in-Limit.n) c.self.invariant.1
    (c.push_back_reserved-in-Limit.ensures.items ∙ ap (λ ks. ks ++ kind_of (body.Limit c.in-Limit.n) ∷ []) c.in_ok-reserve.ensures.items) (sym (append-nil _)) (sym (append-nil _)) (sym (append-nil _)) c.args.self.now c.self.view_is ∙ ap (λ l. c.args.self.now ++ l ∷ []) (sym c.in-Limit.is)

pub invariant_of-self-in-Publish : goal.invariant_of-self-in-Publish
invariant_of-self-in-Publish c = push_kept c.self.invariant.0 c.self.inside.lines.items c.push_back_reserved-in-Publish.new.self.items c.self.inside.features.items c.self.inside.features.items c.self.inside.texts.items c.self.inside.texts.items c.self.inside.events.items c.self.inside.events.items (body.Publish) c.self.invariant.1
    (c.push_back_reserved-in-Publish.ensures.items ∙ ap (λ ks. ks ++ kind_of (body.Publish) ∷ []) c.in_ok-reserve.ensures.items) (sym (append-nil _)) (sym (append-nil _)) (sym (append-nil _))

pub returns-in-Publish-clause-ok : goal.returns-in-Publish-clause-ok
returns-in-Publish-clause-ok c = push_view c.self.invariant.0 c.self.inside.lines.items c.push_back_reserved-in-Publish.new.self.items c.self.inside.features.items c.self.inside.features.items c.self.inside.texts.items c.self.inside.texts.items c.self.inside.events.items c.self.inside.events.items (body.Publish) c.self.invariant.1
    (c.push_back_reserved-in-Publish.ensures.items ∙ ap (λ ks. ks ++ kind_of (body.Publish) ∷ []) c.in_ok-reserve.ensures.items) (sym (append-nil _)) (sym (append-nil _)) (sym (append-nil _)) c.args.self.now c.self.view_is ∙ ap (λ l. c.args.self.now ++ l ∷ []) (sym c.in-Publish.is)

pub invariant_of-self-in-Ask : goal.invariant_of-self-in-Ask
invariant_of-self-in-Ask c = push_kept c.self.invariant.0 c.self.inside.lines.items c.push_back_reserved-in-Ask.new.self.items c.self.inside.features.items c.self.inside.features.items c.self.inside.texts.items c.push_back-in-Ask.new.self.items c.self.inside.events.items c.self.inside.events.items (body.Ask c.in-Ask.lane c.in-Ask.text) c.self.invariant.1
    (c.push_back_reserved-in-Ask.ensures.items ∙ ap (λ ks. ks ++ kind_of (body.Ask c.in-Ask.lane c.in-Ask.text) ∷ []) c.in_ok-reserve.ensures.items) (sym (append-nil _)) (c.in_ok-push_back-in-Ask.ensures.items) (sym (append-nil _))

pub returns-in_ok-push_back-in-Ask-clause-ok : goal.returns-in_ok-push_back-in-Ask-clause-ok
returns-in_ok-push_back-in-Ask-clause-ok c = push_view c.self.invariant.0 c.self.inside.lines.items c.push_back_reserved-in-Ask.new.self.items c.self.inside.features.items c.self.inside.features.items c.self.inside.texts.items c.push_back-in-Ask.new.self.items c.self.inside.events.items c.self.inside.events.items (body.Ask c.in-Ask.lane c.in-Ask.text) c.self.invariant.1
    (c.push_back_reserved-in-Ask.ensures.items ∙ ap (λ ks. ks ++ kind_of (body.Ask c.in-Ask.lane c.in-Ask.text) ∷ []) c.in_ok-reserve.ensures.items) (sym (append-nil _)) (c.in_ok-push_back-in-Ask.ensures.items) (sym (append-nil _)) c.args.self.now c.self.view_is ∙ ap (λ l. c.args.self.now ++ l ∷ []) (sym c.in-Ask.is)

pub invariant_of-self-in-Explain : goal.invariant_of-self-in-Explain
invariant_of-self-in-Explain c = push_kept c.self.invariant.0 c.self.inside.lines.items c.push_back_reserved-in-Explain.new.self.items c.self.inside.features.items c.self.inside.features.items c.self.inside.texts.items c.push_back-in-Explain.new.self.items c.self.inside.events.items c.self.inside.events.items (body.Explain c.in-Explain.text) c.self.invariant.1
    (c.push_back_reserved-in-Explain.ensures.items ∙ ap (λ ks. ks ++ kind_of (body.Explain c.in-Explain.text) ∷ []) c.in_ok-reserve.ensures.items) (sym (append-nil _)) (c.in_ok-push_back-in-Explain.ensures.items) (sym (append-nil _))

pub returns-in_ok-push_back-in-Explain-clause-ok : goal.returns-in_ok-push_back-in-Explain-clause-ok
returns-in_ok-push_back-in-Explain-clause-ok c = push_view c.self.invariant.0 c.self.inside.lines.items c.push_back_reserved-in-Explain.new.self.items c.self.inside.features.items c.self.inside.features.items c.self.inside.texts.items c.push_back-in-Explain.new.self.items c.self.inside.events.items c.self.inside.events.items (body.Explain c.in-Explain.text) c.self.invariant.1
    (c.push_back_reserved-in-Explain.ensures.items ∙ ap (λ ks. ks ++ kind_of (body.Explain c.in-Explain.text) ∷ []) c.in_ok-reserve.ensures.items) (sym (append-nil _)) (c.in_ok-push_back-in-Explain.ensures.items) (sym (append-nil _)) c.args.self.now c.self.view_is ∙ ap (λ l. c.args.self.now ++ l ∷ []) (sym c.in-Explain.is)

pub invariant_of-self-in-Replay : goal.invariant_of-self-in-Replay
invariant_of-self-in-Replay c = push_kept c.self.invariant.0 c.self.inside.lines.items c.push_back_reserved-in-Replay-2.new.self.items c.self.inside.features.items c.self.inside.features.items c.self.inside.texts.items c.push_back_reserved-in-Replay.new.self.items c.self.inside.events.items c.push_back-in-Replay.new.self.items (body.Replay c.in-Replay.events c.in-Replay.text) c.self.invariant.1
    (c.push_back_reserved-in-Replay-2.ensures.items ∙ ap (λ ks. ks ++ kind_of (body.Replay c.in-Replay.events c.in-Replay.text) ∷ []) c.in_ok-reserve.ensures.items) (sym (append-nil _)) (c.push_back_reserved-in-Replay.ensures.items ∙ ap (λ ts. ts ++ c.in-Replay.text ∷ []) c.in_ok-reserve-in-Replay.ensures.items) (c.in_ok-push_back-in-Replay.ensures.items)

pub returns-in_ok-push_back-in-Replay-clause-ok : goal.returns-in_ok-push_back-in-Replay-clause-ok
returns-in_ok-push_back-in-Replay-clause-ok c = push_view c.self.invariant.0 c.self.inside.lines.items c.push_back_reserved-in-Replay-2.new.self.items c.self.inside.features.items c.self.inside.features.items c.self.inside.texts.items c.push_back_reserved-in-Replay.new.self.items c.self.inside.events.items c.push_back-in-Replay.new.self.items (body.Replay c.in-Replay.events c.in-Replay.text) c.self.invariant.1
    (c.push_back_reserved-in-Replay-2.ensures.items ∙ ap (λ ks. ks ++ kind_of (body.Replay c.in-Replay.events c.in-Replay.text) ∷ []) c.in_ok-reserve.ensures.items) (sym (append-nil _)) (c.push_back_reserved-in-Replay.ensures.items ∙ ap (λ ts. ts ++ c.in-Replay.text ∷ []) c.in_ok-reserve-in-Replay.ensures.items) (c.in_ok-push_back-in-Replay.ensures.items) c.args.self.now c.self.view_is ∙ ap (λ l. c.args.self.now ++ l ∷ []) (sym c.in-Replay.is)
