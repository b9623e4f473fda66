use Rattle.std.proofs.Common.{◌^◌, ◌≤◌, ◌<◌, ℕ, arith}
use Rattle.std.proofs.Math.Nat.{pow-le-pow_right}
use Rattle.trace_text.proofs.cut.numeral_of.Goals as goal

below_nine : (i : ℕ) → i < 9 → 10 ^ i ≤ 10 ^ 8
below_nine i lt =
    let least : 0 < 10 = omega arith in
    let most : i ≤ 8 = omega arith in
    pow-le-pow_right least most

pub overflow_mul-number : goal.overflow_mul-number
overflow_mul-number c =
    let bound = below_nine c.loop-digit.digit-index (omega arith) in
    omega (arith, bound, c.loop-digit.invariant.small)

pub overflow_add-number : goal.overflow_add-number
overflow_add-number c =
    let bound = below_nine c.loop-digit.digit-index (omega arith) in
    omega (arith, bound, c.loop-digit.invariant.small)
