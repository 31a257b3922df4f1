use Rattle.std.proofs.Common.{◌<◌, ap, arith, slice_index_or, length}
use Rattle.std.proofs.lemmas.List.{get_or_default}
use Rattle.geo_base.specs.declared.link.Link.{Link}
use Rattle.plain_answer.proofs.Admitted.{none_smaller}
use Rattle.plain_answer.proofs.chains.smaller_end.Goals as goal

pub returns-then-links-end-clause-rest : goal.returns-then-links-end-clause-rest
returns-then-links-end-clause-rest c = λ d.
    none_smaller c.args.links.now c.args.i (slice_index_or c.args.links.now c.args.i d).layer c.requires.rising
    (λ e. let same = ap (λ (l : Link). l.layer) (get_or_default c.args.links.now c.args.i d e c.requires.i) in omega (arith, same))

pub returns-else-links-end-clause-rest : goal.returns-else-links-end-clause-rest
returns-else-links-end-clause-rest c = λ d.
    let within : c.args.end < length c.args.links.now = omega (arith, c.requires.end, c.requires.i) in
    let here = ap (λ (l : Link). l.layer) (get_or_default c.args.links.now c.args.i d c.index-links-i.result c.requires.i) in
    none_smaller c.args.links.now c.args.end (slice_index_or c.args.links.now c.args.i d).layer c.requires.rising
    (λ e. let there = ap (λ (l : Link). l.layer) (get_or_default c.args.links.now c.args.end c.index-links-end.result e within) in omega (arith, here, there, c.if-links-end.false))
