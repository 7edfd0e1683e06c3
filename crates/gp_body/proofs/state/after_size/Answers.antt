use Rattle.std.proofs.Common.{ℕ, ◌^◌, ◌<◌, ◌≤◌, arith, lit<}
use Rattle.std.proofs.Math.Nat.{pow-le-pow_right}
use Rattle.gp_body.proofs.state.after_size.Goals as goal

-- seven digits write less than this
small : (digits size : ℕ) → digits < 8 → size < 16 ^ digits → size < 268435456
small digits size few within =
    let most : 16 ^ digits ≤ 16 ^ 7 = pow-le-pow_right {n = 16} (lit< tt) {i = digits} {j = 7} (omega arith) in
    omega (arith, most)

pub overflow_mul-result : goal.overflow_mul-result
overflow_mul-result c = omega (arith, small c.args.digits c.args.size c.if-digits-lt-MAX_DIGITS.true c.requires.1)

pub overflow_add-result-in-Some-default : goal.overflow_add-result-in-Some-default
overflow_add-result-in-Some-default c =
    omega (arith, small c.args.digits c.args.size c.if-digits-lt-MAX_DIGITS.true c.requires.1, c.in-Some-default.ensures.value)
