use Rattle.std.proofs.Common.{[], ◌≡◌, ◌<◌, length, sym, subst, ◌∙◌, ap, false, cond}
use Rattle.geo_base.specs.declared.job.Job.{Job}
use Rattle.search_core.specs.Machine.{WorkerState, cut, opened, may_cut}
use Rattle.search_core.specs.Hand.{as_worker}
use Rattle.search_core.proofs.AlongFacts.{may_from}
use Rattle.search_core.proofs.one.take_turn.Goals as goal

pub cut-requires : goal.cut-requires
cut-requires g c = subst (λ (w : WorkerState). 0 < length w.stack) (sym (c.look.ensures.seen [])) c.requires.some

pub returns-then-cut-clause-test : goal.returns-then-cut-clause-test
returns-then-cut-clause-test g c =
    let own : c.look.new.self.job ≡ c.args.job.now = c.look.ensures.job ∙ c.requires.job in
    sym c.if-cut.true ∙ (c.cut.ensures.value ∙ (ap (λ (j : Job). may_cut j (as_worker [] c.look.new.self)) own ∙ ap (may_cut c.args.job.now) (c.look.ensures.seen [])))

pub returns-then-cut-clause-worker : goal.returns-then-cut-clause-worker
returns-then-cut-clause-worker g c = λ claims.
    c.cut.ensures.gone claims ∙ (ap (λ b. cond b (cut (as_worker claims c.look.new.self)) (as_worker claims c.look.new.self)) c.if-cut.true ∙ ap cut (c.look.ensures.seen claims))

pub open_top-requires-clause-job : goal.open_top-requires-clause-job
open_top-requires-clause-job g c = c.cut.ensures.job ∙ (c.look.ensures.job ∙ c.requires.job)

pub open_top-requires-clause-may : goal.open_top-requires-clause-may
open_top-requires-clause-may g c =
    let own : c.look.new.self.job ≡ c.args.job.now = c.look.ensures.job ∙ c.requires.job in
    let same : as_worker [] c.cut.new.self ≡ as_worker [] c.look.new.self = c.cut.ensures.gone [] ∙ ap (λ b. cond b (cut (as_worker [] c.look.new.self)) (as_worker [] c.look.new.self)) c.if-cut.false in
    let low : may_cut c.args.job.now (as_worker [] c.cut.new.self) ≡ false =
    ap (may_cut c.args.job.now) same ∙ (ap (λ (j : Job). may_cut j (as_worker [] c.look.new.self)) (sym own) ∙ (sym c.cut.ensures.value ∙ c.if-cut.false)) in
    may_from c.args.job.now c.cut.new.self (subst (λ (w : WorkerState). 0 < length w.stack) (sym (same ∙ c.look.ensures.seen [])) c.requires.some) low

pub returns-clause-test : goal.returns-clause-test
returns-clause-test g c =
    let own : c.look.new.self.job ≡ c.args.job.now = c.look.ensures.job ∙ c.requires.job in
    sym c.if-cut.false ∙ (c.cut.ensures.value ∙ (ap (λ (j : Job). may_cut j (as_worker [] c.look.new.self)) own ∙ ap (may_cut c.args.job.now) (c.look.ensures.seen [])))

pub returns-clause-worker : goal.returns-clause-worker
returns-clause-worker g c = λ claims.
    c.in_ok-open_top.ensures.opened claims
    ∙ ap (opened c.args.job.now (g.R.Rows.cells c.args.rows.now))
    (c.cut.ensures.gone claims ∙ (ap (λ b. cond b (cut (as_worker claims c.look.new.self)) (as_worker claims c.look.new.self)) c.if-cut.false ∙ c.look.ensures.seen claims))
