use Rattle.std.proofs.Common.{◌≡◌, ◌==◌, ◌<◌, true, false, length, sym, arith, rules, Ok}
use Rattle.std.specs.List.{list_any}
use Rattle.session_text.specs.Session.{two_numbers}
use Rattle.session_text.proofs.LoadFacts.{load_is}
use Rattle.session_text.proofs.session.Session.read_load.Goals as goal

pub returns-then-is_among : goal.returns-then-is_among
returns-then-is_among c =
    let read : two_numbers c.args.text.now ≡ Ok (c.in-Some.feed, c.in-Some.layer) = search rules in
    let within : c.in-Some.layer < length c.args.self.now.head.layers = search (rules, arith) in
    let there : c.in-Some.feed < c.args.self.now.feeds = search (rules, arith) in
    let named : list_any (λ f. f == c.in-Some.feed) c.args.self.now.named ≡ true = search rules in
    sym (load_is c.args.self.now c.args.text.now c.in-Some.feed c.in-Some.layer true read within there named)

pub returns : goal.returns
returns c =
    let read : two_numbers c.args.text.now ≡ Ok (c.in-Some.feed, c.in-Some.layer) = search rules in
    let within : c.in-Some.layer < length c.args.self.now.head.layers = search (rules, arith) in
    let there : c.in-Some.feed < c.args.self.now.feeds = search (rules, arith) in
    let named : list_any (λ f. f == c.in-Some.feed) c.args.self.now.named ≡ false = search rules in
    sym (load_is c.args.self.now c.args.text.now c.in-Some.feed c.in-Some.layer false read within there named)
