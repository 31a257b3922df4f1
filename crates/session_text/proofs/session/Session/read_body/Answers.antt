use Rattle.std.proofs.Common.{◌≡◌, ◌∙◌, Some, Err, sym, ap, rules}
use Rattle.std.specs.Prelude.{count_by}
use Rattle.geo_text.specs.Words.{first_word}
use Rattle.session_text.specs.Session.{is_asking, ask_line, explain_line, replay_line, word_of, line_of_word}
use Rattle.session_text.specs.declared.item.Word.TheVariants as word
use Rattle.session_text.proofs.PutFacts.{put_can_be_added}
use Rattle.session_text.proofs.session.Session.read_body.Goals as goal

pub returns-in-Some-Put-clause-fits : goal.returns-in-Some-Put-clause-fits
returns-in-Some-Put-clause-fits c = put_can_be_added c.args.self.now c.self.inside.head c.as_bytes-bytes.result.now c.read_put.result c.read_put.ensures.ok

pub returns-in-Some-Ask-clause-fault : goal.returns-in-Some-Ask-clause-fault
returns-in-Some-Ask-clause-fault c why is =
    let asks : word_of c.args.self.now.kind (first_word c.args.text.now) ≡ Some word.Ask = search rules in
    let counted : count_by is_asking c.args.self.now.round ≡ c.self.inside.asks = search rules in
    ap (line_of_word c.args.self.now c.args.text.now) asks ∙ c.read_ask.ensures.fault c.args.self.now.round counted why is

pub returns-in-Some-Ask-clause-memory : goal.returns-in-Some-Ask-clause-memory
returns-in-Some-Ask-clause-memory c is why e =
    let asks : word_of c.args.self.now.kind (first_word c.args.text.now) ≡ Some word.Ask = search rules in
    let said : ask_line c.args.self.now.round c.args.text.now ≡ Err why = sym (ap (line_of_word c.args.self.now c.args.text.now) asks) ∙ e in
    let counted : count_by is_asking c.args.self.now.round ≡ c.self.inside.asks = search rules in
    c.read_ask.ensures.memory is c.args.self.now.round counted why said

pub returns-in-Some-Explain-clause-fault : goal.returns-in-Some-Explain-clause-fault
returns-in-Some-Explain-clause-fault c why is =
    let asks : word_of c.args.self.now.kind (first_word c.args.text.now) ≡ Some word.Explain = search rules in
    let counted : count_by is_asking c.args.self.now.round ≡ c.self.inside.asks = search rules in
    ap (line_of_word c.args.self.now c.args.text.now) asks ∙ c.read_explain.ensures.fault c.args.self.now.round counted why is

pub returns-in-Some-Explain-clause-memory : goal.returns-in-Some-Explain-clause-memory
returns-in-Some-Explain-clause-memory c is why e =
    let asks : word_of c.args.self.now.kind (first_word c.args.text.now) ≡ Some word.Explain = search rules in
    let said : explain_line c.args.self.now.round c.args.text.now ≡ Err why = sym (ap (line_of_word c.args.self.now c.args.text.now) asks) ∙ e in
    let counted : count_by is_asking c.args.self.now.round ≡ c.self.inside.asks = search rules in
    c.read_explain.ensures.memory is c.args.self.now.round counted why said

pub returns-in-Some-Replay-clause-fault : goal.returns-in-Some-Replay-clause-fault
returns-in-Some-Replay-clause-fault c why is =
    let asks : word_of c.args.self.now.kind (first_word c.args.text.now) ≡ Some word.Replay = search rules in
    let counted : count_by is_asking c.args.self.now.round ≡ c.self.inside.asks = search rules in
    ap (line_of_word c.args.self.now c.args.text.now) asks ∙ c.read_replay.ensures.fault c.args.self.now.round counted why is

pub returns-in-Some-Replay-clause-memory : goal.returns-in-Some-Replay-clause-memory
returns-in-Some-Replay-clause-memory c is why e =
    let asks : word_of c.args.self.now.kind (first_word c.args.text.now) ≡ Some word.Replay = search rules in
    let said : replay_line c.args.self.now.round c.args.text.now ≡ Err why = sym (ap (line_of_word c.args.self.now c.args.text.now) asks) ∙ e in
    let counted : count_by is_asking c.args.self.now.round ≡ c.self.inside.asks = search rules in
    c.read_replay.ensures.memory is c.args.self.now.round counted why said
