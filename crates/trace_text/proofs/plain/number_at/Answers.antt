use Rattle.std.proofs.Common.{◌≡◌, ◌+◌, ◌<◌, ◌∷◌, arith}
use Rattle.trace_text.proofs.PlainLemmas.{NumberAt_one_digit, NumberAt_two_digits}
use Rattle.trace_text.proofs.plain.number_at.Goals as goal

pub returns-in-Some : goal.returns-in-Some
returns-in-Some c =
    let first : (c.args.octets.now ≡ (48 + c.in_ok-first.first) ∷ c.in_ok-first.behind.now) × (c.in_ok-first.first < 10) = grind arith in
    let second : (c.in_ok-first.behind.now ≡ (48 + c.in-Some.ones) ∷ c.in-Some.others.now) × (c.in-Some.ones < 10) = grind arith in
    NumberAt_two_digits c.args.octets.now c.in_ok-first.behind.now c.in-Some.others.now c.in_ok-first.first c.in-Some.ones first.0 first.1 second.0 second.1 (omega (arith, c.if-first-gt0.true))

pub returns-in_default : goal.returns-in_default
returns-in_default c =
    let first : (c.args.octets.now ≡ (48 + c.in_ok-first.first) ∷ c.in_ok-first.behind.now) × (c.in_ok-first.first < 10) = grind arith in
    NumberAt_one_digit c.args.octets.now c.in_ok-first.behind.now c.in_ok-first.first first.0 first.1
