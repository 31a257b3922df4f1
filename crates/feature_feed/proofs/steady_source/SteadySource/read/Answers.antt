use Rattle.std.proofs.Common.{◌≡◌, ◌∙◌, ap, sym}
use Rattle.feature_feed.specs.Steady.{SteadyView, steady_left}
use Rattle.feature_feed.proofs.ToldBefore.{told_before}
use Rattle.feature_feed.proofs.steady_source.SteadySource.read.Goals as goal

pub returns-clause-told : goal.returns-clause-told
returns-clause-told g c = λ bytes is.
    let before = told_before (g.S.Source.left c.self.inside.first.value) (g.S.Source.left c.self.inside.source) (g.S.Source.left c.read.new.self) c.self.invariant bytes is in
    let seen : c.args.self.now.left ≡ steady_left (g.S.Source.left c.self.inside.first.value) (g.S.Source.left c.self.inside.source) = sym (ap (λ (v : SteadyView). v.left) c.self.view_is) in
    (before.0, seen ∙ before.1)
