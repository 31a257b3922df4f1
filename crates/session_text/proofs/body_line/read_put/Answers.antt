use Rattle.std.proofs.Common.{◌≡◌, ◌<◌, ◌≤◌, length, Some, Err, subst, rules, arith}
use Rattle.geo_text.specs.Numbers.{number_of}
use Rattle.geo_text.specs.Words.{first_word}
use Rattle.session_text.specs.Lines.{next_field}
use Rattle.session_text.specs.Session.{put_line}
use Rattle.session_text.specs.declared.why.Why.{Why}
use Rattle.session_text.specs.declared.why.Why.TheVariants as why
use Rattle.session_text.proofs.PutFacts.{put_no_layer}
use Rattle.session_text.proofs.Rooms.{put_late}
use Rattle.session_text.proofs.body_line.read_put.Goals as goal

pub returns-then-place-len-clause-fault : goal.returns-then-place-len-clause-fault
returns-then-place-len-clause-fault c fault e =
    let number : number_of (first_word (next_field c.args.text.now)) ≡ Some c.in-Some.place = search rules in
    let past : length c.args.head.now.layers ≤ c.in-Some.place = search (rules, arith) in
    let same : why.Number ≡ fault = cc in
    subst (λ (f : Why). put_line c.args.head.now c.args.text.now ≡ Err f) same (put_no_layer c.args.head.now c.args.text.now c.in-Some.place number past)

pub returns-in-Err-Memory-clause-memory : goal.returns-in-Err-Memory-clause-memory
returns-in-Err-Memory-clause-memory c is =
    let number : number_of (first_word (next_field c.args.text.now)) ≡ Some c.in-Some.place = search rules in
    let within : c.in-Some.place < length c.args.head.now.layers = search (rules, arith) in
    put_late c.args.head.now c.args.text.now c.in-Some.place number within
