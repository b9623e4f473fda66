use Rattle.std.proofs.Common.{◌^◌, ◌≤◌, ◌<◌, ℕ, arith}
use Rattle.std.proofs.Math.Nat.{pow-le-pow_right}
use Rattle.command_words.proofs.numerals.numeral_of.Goals as goal

below_ten : (i : ℕ) → i < 10 → 10 ^ i ≤ 10 ^ 9
below_ten i lt =
    let least : 0 < 10 = omega arith in
    let most : i ≤ 9 = omega arith in
    pow-le-pow_right least most

pub overflow_mul-number : goal.overflow_mul-number
overflow_mul-number c =
    let bound = below_ten c.loop-digit.digit-index (omega arith) in
    omega (arith, bound, c.loop-digit.invariant.small)

pub overflow_add-number : goal.overflow_add-number
overflow_add-number c =
    let bound = below_ten c.loop-digit.digit-index (omega arith) in
    omega (arith, bound, c.loop-digit.invariant.small)
