use Rattle.std.proofs.Common.{◌≡◌, ◌∙◌, ◌++◌, map, sym, ap, append_assoc, append-nil}
use Rattle.std.specs.Map.Iter.{deref_pair}
use Rattle.std.proofs.lemmas.Map.Iter.{rest_more, rest_all}
use Rattle.feature_reader.specs.Table.{entry_of}
use Rattle.plain_answer.specs.Links.{links}
use Rattle.plain_answer.proofs.links.links_of.Goals as goal

pub loop-place-init : goal.loop-place-init
loop-place-init c =
    let same = c.into_iter-place-iterator.ensures.into_iter_gives in
    let table : map entry_of c.into_iter-place-iterator.result ≡ c.args.table.now = ap (map entry_of) same ∙ c.entries-place-items.ensures.value in
    rw c.new-links.ensures.items (ap (λ t. links c.args.head.now t c.args.query.now) table)

pub loop-place-preserved : goal.loop-place-preserved
loop-place-preserved c =
    let turn = rest_more deref_pair _ _ _ _ c.in-Some.is c.next.ensures.steps in
    rw c.in_ok-add_entry.ensures.links (append_assoc c.loop-place.links.items _ _ ∙ (ap (λ es. c.loop-place.links.items ++ links c.args.head.now (map entry_of es) c.args.query.now) (sym turn) ∙ c.loop-place.invariant))

pub returns : goal.returns
returns c =
    let left = rest_all deref_pair _ _ _ c.in-None.is c.next.ensures.steps in
    sym (append-nil c.loop-place.links.items) ∙ (ap (λ es. c.loop-place.links.items ++ links c.args.head.now (map entry_of es) c.args.query.now) (sym left) ∙ c.loop-place.invariant)
