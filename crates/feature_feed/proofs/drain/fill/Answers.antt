use Rattle.std.proofs.Common.{◌≡◌, ◌∙◌, ◌+◌, ◌≤◌, [], ◌∷◌, ◌++◌, List, length, sym, ap, subst, append-nil, ◌<◌, arith}
use Rattle.std.proofs.lemmas.List.{length-append}
use Rattle.feature_feed.specs.Drain.{Gave, IsLoad}
use Rattle.feature_reader.specs.declared.load_report.LoadReport.{LoadReport}
use Rattle.feature_feed.specs.declared.feed.FeedItem.{FeedItem}
use Rattle.feature_feed.proofs.Filled.{Filling, filling_more, read_more, bad_within, full_within, gave_same, gave_end, gave_one, given_still, given_more, end_more, all_given}
use Rattle.feature_feed.proofs.drain.fill.Goals as goal

pub returns-in-Ok-None-clause-load : goal.returns-in-Ok-None-clause-load
returns-in-Ok-None-clause-load g c =
    let gave = c.loop.invariant.filling.0 in
    let filling = c.loop.invariant.filling.1 in
    let before = ((goal.Feed-dyn g (c.args.feed.now.vtable, c.args.feed.now.value)).shows c.args.feed.now.value).left in
    let now = ((goal.Feed-dyn g (c.loop.feed.vtable, c.loop.feed.value)).shows c.loop.feed.value).left in
    let after = ((goal.Feed-dyn g (c.pull.new.feed.vtable, c.pull.new.feed.value)).shows c.pull.new.feed.value).left in
    let load : IsLoad c.args.layer.now c.args.langs.now c.args.place (g.T.Taker.table c.args.into.now) (g.T.Taker.table c.loop.into) c.ended.result gave =
    subst (λ (r : LoadReport). IsLoad c.args.layer.now c.args.langs.now c.args.place (g.T.Taker.table c.args.into.now) (g.T.Taker.table c.loop.into) r gave) (sym c.ended.ensures)
    (record { read = filling.load.read; bad = filling.load.bad; full = filling.load.full; table = filling.load.table }) in
    (gave, gave_end before now after gave filling.tells filling.rest (rw c.in-Ok-None.field-0-is at c.in-Ok-None.ensures.taken) c.pull.ensures.told, load)

pub returns-in-Err-Memory-clause-memory : goal.returns-in-Err-Memory-clause-memory
returns-in-Err-Memory-clause-memory g c =
    let gave = c.loop.invariant.filling.0 in
    let filling = c.loop.invariant.filling.1 in
    let before = ((goal.Feed-dyn g (c.args.feed.now.vtable, c.args.feed.now.value)).shows c.args.feed.now.value).left in
    let now = ((goal.Feed-dyn g (c.loop.feed.vtable, c.loop.feed.value)).shows c.loop.feed.value).left in
    let after = ((goal.Feed-dyn g (c.pull.new.feed.vtable, c.pull.new.feed.value)).shows c.pull.new.feed.value).left in
    let same : Gave before gave after = gave_same before now after gave filling.tells filling.rest c.in-Err-Memory.ensures.unchanged in
    let read : length (gave ++ []) ≡ c.loop.counter = ap (length {A = FeedItem}) (append-nil gave) ∙ (sym filling.load.read ∙ c.loop.invariant.read) in
    let count = rw c.in-Err-Memory.is at c.pull.ensures.count in (
      gave,
      [],
      omega arith,
      subst (λ (l : List FeedItem). Gave before l after) (sym (append-nil gave)) same,
      filling.load.table,
      given_still _ _ _ c.loop.counter _ count c.loop.invariant.count read,
    )

pub returns-in_default-clause-memory : goal.returns-in_default-clause-memory
returns-in_default-clause-memory g c =
    let gave = c.loop.invariant.filling.0 in
    let filling = c.loop.invariant.filling.1 in
    let before = ((goal.Feed-dyn g (c.args.feed.now.vtable, c.args.feed.now.value)).shows c.args.feed.now.value).left in
    let now = ((goal.Feed-dyn g (c.loop.feed.vtable, c.loop.feed.value)).shows c.loop.feed.value).left in
    let after = ((goal.Feed-dyn g (c.pull.new.feed.vtable, c.pull.new.feed.value)).shows c.pull.new.feed.value).left in
    let given : Gave before (gave ++ c.in-Ok-Some.item ∷ []) after = gave_one before now after gave c.in-Ok-Some.item filling.tells filling.rest (rw c.in-Ok-Some.field-0-is at c.in-Ok-Some.ensures.taken) c.pull.ensures.told in
    let read : length (gave ++ c.in-Ok-Some.item ∷ []) ≡ c.loop.counter + 1 = length-append gave (c.in-Ok-Some.item ∷ []) ∙ ap (λ n. n + 1) (sym filling.load.read ∙ c.loop.invariant.read) in (
      gave,
      c.in-Ok-Some.item ∷ [],
      omega arith,
      given,
      c.in_default.ensures.memory ∙ filling.load.table,
      λ low. let more = given_more _ _ _ c.loop.counter (rw c.in-Ok-Some.field-0-is at c.in-Ok-Some.ensures.count) c.loop.invariant.count low in omega (arith, more, read),
    )

pub loop-preserved : goal.loop-preserved
loop-preserved g c =
    let gave = c.loop.invariant.filling.0 in
    let filling = c.loop.invariant.filling.1 in
    let before = ((goal.Feed-dyn g (c.args.feed.now.vtable, c.args.feed.now.value)).shows c.args.feed.now.value).left in
    let now = ((goal.Feed-dyn g (c.loop.feed.vtable, c.loop.feed.value)).shows c.loop.feed.value).left in
    let after = ((goal.Feed-dyn g (c.pull.new.feed.vtable, c.pull.new.feed.value)).shows c.pull.new.feed.value).left in
    let filled = filling_more c.args.layer.now c.args.langs.now c.args.place before (g.T.Taker.table c.args.into.now) c.loop.report gave now after (g.T.Taker.table c.loop.into) (g.T.Taker.table c.take_item-taken.new.into) c.in-Ok-Some.item c.in-Ok.outcome filling
    (rw c.in-Ok-Some.field-0-is at c.in-Ok-Some.ensures.taken) c.pull.ensures.told c.in-Ok.ensures.outcome c.in-Ok.ensures.table in
    record {
      filling = (gave ++ c.in-Ok-Some.item ∷ [], subst (λ (r : LoadReport). Filling before c.args.layer.now c.args.langs.now c.args.place (g.T.Taker.table c.args.into.now) r (gave ++ c.in-Ok-Some.item ∷ []) after (g.T.Taker.table c.take_item-taken.new.into)) (sym c.with_outcome-report.ensures) filled);
      count = given_more _ _ _ c.loop.counter (rw c.in-Ok-Some.field-0-is at c.in-Ok-Some.ensures.count) c.loop.invariant.count;
      faults = c.in-Ok-Some.ensures.kept (λ e. absurd (cc e)) ∙ c.loop.invariant.faults;
      end = ap (λ (r : LoadReport). r.end) c.with_outcome-report.ensures ∙ end_more c.loop.report c.in-Ok.outcome ∙ c.loop.invariant.end;
      layers = c.take_item-taken.ensures.layers ∙ c.loop.invariant.layers;
      rest = c.take_item-taken.ensures.rest ∙ c.loop.invariant.rest;
      read = ap (λ (r : LoadReport). r.read) c.with_outcome-report.ensures ∙ read_more c.args.layer.now c.args.langs.now c.args.place c.loop.report c.in-Ok.outcome ∙ ap (λ n. n + 1) c.loop.invariant.read;
      bad = subst (λ (r : LoadReport). r.bad ≤ r.read) (sym c.with_outcome-report.ensures) (bad_within c.loop.report c.in-Ok.outcome c.loop.invariant.bad);
      full = subst (λ (r : LoadReport). r.full ≤ r.read) (sym c.with_outcome-report.ensures) (full_within c.loop.report c.in-Ok.outcome c.loop.invariant.full);
    }

pub returns-in-Ok-None-clause-ended : goal.returns-in-Ok-None-clause-ended
returns-in-Ok-None-clause-ended g c =
    let gave = c.loop.invariant.filling.0 in
    let filling = c.loop.invariant.filling.1 in
    let before = ((goal.Feed-dyn g (c.args.feed.now.vtable, c.args.feed.now.value)).shows c.args.feed.now.value).left in
    let now = ((goal.Feed-dyn g (c.loop.feed.vtable, c.loop.feed.value)).shows c.loop.feed.value).left in
    let after = ((goal.Feed-dyn g (c.pull.new.feed.vtable, c.pull.new.feed.value)).shows c.pull.new.feed.value).left in
    let read : c.ended.result.read ≡ c.loop.report.read = ap (λ (r : LoadReport). r.read) c.ended.ensures in
    let within : c.ended.result.read < 1048576 = omega (arith, read, c.loop.invariant.read, c.loop-test.true) in
    λ end. (within, λ items is. read ∙ filling.load.read ∙ all_given before now after gave filling.tells (rw c.in-Ok-None.field-0-is at c.in-Ok-None.ensures.taken) items is)
