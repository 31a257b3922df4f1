use Rattle.std.proofs.Common.{◌≡◌, ◌∙◌, ◌+◌, ◌-◌, ◌++◌, ℕ, List, length, sym, ap, arith}
use Rattle.std.specs.Prelude.{flat_map}
use Rattle.geo_base.specs.declared.link.Link.{Link}
use Rattle.geo_base.specs.Lists.{numbers_from}
use Rattle.plain_answer.specs.Links.{run_links}
use Rattle.plain_answer.proofs.RunLists.{one_more, flat_map-map}
use Rattle.plain_answer.proofs.links.LayerQuery.add_runs_from.Goals as goal

pub loop-to-preserved : goal.loop-to-preserved
loop-to-preserved c =
    let run : ℕ → List Link = λ to. run_links c.args.self.now.head.now c.args.self.now.query.now c.args.self.now.layer.now c.args.self.now.number c.args.feature.now c.args.phrase.now (c.args.from, to) in
    c.in_ok-add_match.ensures ∙ one_more run c.args.links.now.items c.loop-to.links.items (c.args.from + 1) c.loop-to.to c.loop-to.auto.to c.loop-to.invariant

pub returns : goal.returns
returns c =
    let run = run_links c.args.self.now.head.now c.args.self.now.query.now c.args.self.now.layer.now c.args.self.now.number c.args.feature.now c.args.phrase.now in
    let all : c.loop-to.to - (c.args.from + 1) ≡ length c.args.self.now.tokens.now - c.args.from = omega (arith, c.requires.within, c.len-to-end.ensures, c.loop-to.auto.to-end) in
    c.loop-to.invariant
    ∙ (ap (λ (n : ℕ). c.args.links.now.items ++ flat_map (λ (to : ℕ). run (c.args.from, to)) (numbers_from (c.args.from + 1) n)) all
    ∙ ap (λ l. c.args.links.now.items ++ l) (sym (flat_map-map run (λ (to : ℕ). (c.args.from, to)) (numbers_from (c.args.from + 1) (length c.args.self.now.tokens.now - c.args.from)))))
