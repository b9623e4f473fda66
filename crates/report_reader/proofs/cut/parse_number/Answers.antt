use Rattle.std.proofs.Common.{◌≡◌, ◌+◌, ◌*◌, ◌^◌, ◌≤◌, ◌<◌, None, sym, ◌∙◌, rules, arith}
use Rattle.report_reader.specs.Reading.{parse_number}
use Rattle.report_reader.proofs.NumberLemmas.{from_end, from_leading, from_large, from_more}
use Rattle.report_reader.proofs.cut.parse_number.Goals as goal

pub returns-then-number-eq0 : goal.returns-then-number-eq0
returns-then-number-eq0 c = sym (from_leading _ _ _ _ (sym c.in-Some.ensures) c.if-number-eq0.true) ∙ c.loop-digit.invariant

pub returns-in_err-checked_mul : goal.returns-in_err-checked_mul
returns-in_err-checked_mul c =
    let large : 2 ^ 32 ≤ c.loop-digit.number * 10 + c.in-Some.digit = omega (arith, c.in_err-checked_mul.ensures) in
    let none : None ≡ parse_number c.args.octets.now = sym (from_large _ _ _ _ (sym c.in-Some.ensures) large) ∙ c.loop-digit.invariant in
    search (rules, none)

pub returns-in_err-number-2 : goal.returns-in_err-number-2
returns-in_err-number-2 c =
    let product : c.in_ok-checked_mul.field-0 ≡ c.loop-digit.number * 10 = c.in_ok-checked_mul.ensures.1 in
    let large : 2 ^ 32 ≤ c.loop-digit.number * 10 + c.in-Some.digit = omega (arith, product, c.in_err-number-2.ensures) in
    let none : None ≡ parse_number c.args.octets.now = sym (from_large _ _ _ _ (sym c.in-Some.ensures) large) ∙ c.loop-digit.invariant in
    search (rules, none)

pub loop-digit-preserved : goal.loop-digit-preserved
loop-digit-preserved c =
    let product : c.in_ok-checked_mul.field-0 ≡ c.loop-digit.number * 10 = c.in_ok-checked_mul.ensures.1 in
    let sum : c.in_ok-number-2.number ≡ c.loop-digit.number * 10 + c.in-Some.digit = rw (← product) c.in_ok-number-2.ensures.1 in
    let small : c.loop-digit.number * 10 + c.in-Some.digit < 2 ^ 32 = omega (arith, sum, product, c.in_ok-number-2.ensures.0) in
    rw sum (sym (from_more _ _ _ _ (sym c.in-Some.ensures) c.if-number-eq0.false small) ∙ c.loop-digit.invariant)

pub returns : goal.returns
returns c = sym (from_end _ _ (sym c.in_default.ensures)) ∙ c.loop-digit.invariant
