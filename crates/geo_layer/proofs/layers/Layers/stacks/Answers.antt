use Rattle.std.proofs.Common.{◌≡◌, ◌∙◌, ℕ, zero, suc, replicate, get_or, refl, ap, arith}
use Rattle.std.specs.Bool.{◌==◌}
use Rattle.geo_layer.specs.Layer.{compat}
use Rattle.geo_layer.proofs.StackBits.{rows_more, rows_end, one_is}
use Rattle.geo_layer.proofs.layers.Layers.stacks.Goals as goal

zeros : (n j : ℕ) → ◌≡◌ {A = ℕ} (get_or (replicate n 0) j 0) 0
zeros zero j = refl
zeros (suc n) zero = refl
zeros (suc n) (suc j) = zeros n j

pub loop-a-init : goal.loop-a-init
loop-a-init c = record { so_far = λ j k less. absurd (omega (arith, less)); none = λ j low. zeros 16 j; long = refl }

pub loop-a-preserved : goal.loop-a-preserved
loop-a-preserved c =
    rows_more c.args.self.now c.loop-a.a c.row_of.result c.loop-a.stacks c.loop-a.invariant (omega (arith, c.loop-a-test.true, c.len-a-end.ensures.value, c.len-a-end.ensures.are.few)) c.row_of.ensures

pub returns : goal.returns
returns c a b low high = ap (λ n. n == 1) (rows_end c.args.self.now c.loop-a.a c.loop-a.stacks c.loop-a.invariant (omega (arith, c.loop-a-test.false, c.len-a-end.ensures.value)) a b low high) ∙ one_is (compat c.args.self.now a b)
