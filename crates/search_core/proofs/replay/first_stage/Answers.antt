use Rattle.std.proofs.Common.{◌≡◌, List, [], sym, subst, refl}
use Rattle.std.proofs.lemmas.List.Elements.{All-replicate}
use Rattle.search_core.specs.Hand.{Hand, AreOf}
use Rattle.search_core.proofs.replay.first_stage.Goals as goal

pub returns-clause-jobs : goal.returns-clause-jobs
returns-clause-jobs c =
    subst (λ (hands : List Hand). AreOf c.args.job.now hands) (sym c.loop.invariant)
    (All-replicate (λ (h : Hand). h.job ≡ c.args.job.now) _ (record { job = c.args.job.now; stack = []; seen = 0; top = [] }) refl)
