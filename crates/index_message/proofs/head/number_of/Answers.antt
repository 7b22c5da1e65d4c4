use Rattle.std.proofs.Common.{arith, ◌^◌, ◌≤◌}
use Rattle.std.proofs.Math.Nat.{pow-le-pow_right}
use Rattle.index_message.proofs.head.number_of.Goals as goal

pub overflow_mul-number : goal.overflow_mul-number
overflow_mul-number c =
    let few : c.loop-digit.digit-index ≤ 17 = omega arith in
    let bound : 10 ^ c.loop-digit.digit-index ≤ 10 ^ 17 = pow-le-pow_right (omega arith) few in
    omega (arith, bound)

pub overflow_add-number : goal.overflow_add-number
overflow_add-number c =
    let few : c.loop-digit.digit-index ≤ 17 = omega arith in
    let bound : 10 ^ c.loop-digit.digit-index ≤ 10 ^ 17 = pow-le-pow_right (omega arith) few in
    omega (arith, bound, c.is_ascii_digit.ensures.bound)
