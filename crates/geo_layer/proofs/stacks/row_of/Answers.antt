use Rattle.std.proofs.Common.{◌∙◌, cond, ap, arith}
use Rattle.std.proofs.lemmas.Nat.Bits.{bit_at-zero}
use Rattle.geo_layer.proofs.StackBits.{bits_more, bits_end}
use Rattle.geo_layer.proofs.stacks.row_of.Goals as goal

pub loop-b-init : goal.loop-b-init
loop-b-init c = record { so_far = λ k less. absurd (omega (arith, less)); none = λ k low. bit_at-zero k }

pub loop-b-preserved : goal.loop-b-preserved
loop-b-preserved c =
    bits_more c.args.layers.now c.args.a c.loop-b.b c.loop-b.row c.with_bit-row.result c.loop-b.invariant (c.with_bit-row.ensures.here ∙ ap (λ o. cond o 1 0) c.compatible.ensures) c.with_bit-row.ensures.others

pub returns : goal.returns
returns c b within = bits_end c.args.layers.now c.args.a c.loop-b.b c.loop-b.row c.loop-b.invariant (omega (arith, c.loop-b-test.false, c.len-b-end.ensures.value)) b
