use Rattle.std.proofs.Common.{◌≡◌, ◌∙◌, ◌-◌, ◌++◌, ℕ, List, length, sym, ap, arith}
use Rattle.std.specs.Prelude.{flat_map}
use Rattle.std.proofs.lemmas.List.{length-map}
use Rattle.geo_base.specs.declared.link.Link.{Link}
use Rattle.geo_base.specs.Lists.{numbers_from}
use Rattle.plain_answer.specs.Match.{runs_from}
use Rattle.plain_answer.specs.Links.{run_links}
use Rattle.plain_answer.proofs.RunLists.{one_more, flat_map-flat_map}
use Rattle.plain_answer.proofs.links.LayerQuery.add_phrase.Goals as goal

pub loop-from-preserved : goal.loop-from-preserved
loop-from-preserved c =
    let runs : ℕ → List Link = λ from. flat_map (run_links c.args.self.now.head.now c.args.self.now.query.now c.args.self.now.layer.now c.args.self.now.number c.args.feature.now c.args.phrase.now) (runs_from (length c.args.self.now.tokens.now) from) in
    c.in_ok-add_runs_from.ensures ∙ one_more runs c.args.links.now.items c.loop-from.links.items 0 c.loop-from.from (omega arith) c.loop-from.invariant

pub returns : goal.returns
returns c =
    let run = run_links c.args.self.now.head.now c.args.self.now.query.now c.args.self.now.layer.now c.args.self.now.number c.args.feature.now c.args.phrase.now in
    let count : length c.args.self.now.tokens.now ≡ length c.args.self.now.query.now.tokens = ap (length {A = List ℕ}) c.requires.tokens ∙ length-map _ _ in
    let all : c.loop-from.from - 0 ≡ length c.args.self.now.tokens.now = omega (arith, c.len-from-end.ensures, c.loop-from.auto.from-end) in
    c.loop-from.invariant
    ∙ (ap (λ (n : ℕ). c.args.links.now.items ++ flat_map (λ (from : ℕ). flat_map run (runs_from (length c.args.self.now.tokens.now) from)) (numbers_from 0 n)) all
    ∙ (ap (λ l. c.args.links.now.items ++ l) (sym (flat_map-flat_map run (runs_from (length c.args.self.now.tokens.now)) (numbers_from 0 (length c.args.self.now.tokens.now))))
    ∙ ap (λ (n : ℕ). c.args.links.now.items ++ flat_map run (flat_map (runs_from n) (numbers_from 0 n))) count))
