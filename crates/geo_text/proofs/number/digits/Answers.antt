use Rattle.std.proofs.Common.{◌≤◌, ◌<◌, ◌^◌, ℕ, arith, rules}
use Rattle.std.proofs.Math.Nat.{pow-le-pow_right}
use Rattle.geo_text.proofs.number.digits.Goals as goal

-- a number below this power of ten has room for one digit more
room : (n i : ℕ) → n < 10 ^ i → i ≤ 17 → n < 10 ^ 17
room n i below few =
    let power : 10 ^ i ≤ 10 ^ 17 = pow-le-pow_right {n = 10} (omega arith) {i = i} {j = 17} few in
    omega (arith, power, below)

pub overflow_mul-n : goal.overflow_mul-n
overflow_mul-n c =
    let below = room c.loop-b.n c.loop-b.b-index c.loop-b.invariant.below (search rules) in
    search (rules, below)

pub overflow_add-n : goal.overflow_add-n
overflow_add-n c =
    let below = room c.loop-b.n c.loop-b.b-index c.loop-b.invariant.below (search rules) in
    search (rules, below)

pub returns-clause-below : goal.returns-clause-below
returns-clause-below c =
    let few : c.loop-b.b-index ≤ c.args.most = search rules in
    let power : 10 ^ c.loop-b.b-index ≤ 10 ^ c.args.most = pow-le-pow_right {n = 10} (omega arith) {i = c.loop-b.b-index} {j = c.args.most} few in
    omega (arith, power, c.loop-b.invariant.below)
