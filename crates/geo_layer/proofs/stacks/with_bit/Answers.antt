use Rattle.std.proofs.Common.{◌∙◌, cond, sym, ap, w16}
use Rattle.std.proofs.lemmas.Nat.Bits.{bit_at_set_same, bit_at_set_other}
use Rattle.geo_layer.proofs.stacks.with_bit.Goals as goal

pub returns-then-on-clause-here : goal.returns-then-on-clause-here
returns-then-on-clause-here c = bit_at_set_same w16 c.args.row c.args.bit c.requires.few ∙ sym (ap (λ b. cond b 1 0) c.if-on.true)

pub returns-then-on-clause-others : goal.returns-then-on-clause-others
returns-then-on-clause-others c k other = bit_at_set_other w16 c.args.row c.args.bit c.requires.few k other
