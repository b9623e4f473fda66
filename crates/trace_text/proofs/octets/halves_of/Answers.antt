use Rattle.std.proofs.Common.{◌≡◌, ◌+◌, ◌++◌, List, ℕ, Ok, length, take, drop, sym, ◌∙◌, arith}
use Rattle.trace_text.specs.TraceFields.{octets_written, thirty}
use Rattle.trace_text.proofs.DigitVectors.{parts_are, digits_valued, four_small, sixteen_values, sixty_read}
use Rattle.trace_text.proofs.octets.halves_of.Goals as goal

pub returns : goal.returns
returns c =
    let digits : List ℕ = c.args.digits.now in
    let long : length digits ≡ 60 = grind arith in
    let a = c.values_from-one.result in
    let b = c.values_from-two.result in
    let d = c.values_from-three.result in
    let e = c.values_from-four.result in
    let small = four_small a b d e
    (sixteen_values digits a 0 (omega (arith, long)) c.values_from-one.ensures ∙ sym (sixteen_values digits b 16 (omega (arith, long)) c.values_from-two.ensures))
    (sixteen_values digits d 28 (omega (arith, long)) c.values_from-three.ensures ∙ sym (sixteen_values digits e 44 (omega (arith, long)) c.values_from-four.ensures))
    (sym c.are_values.ensures ∙ c.if-not-are_values.false) in
    let first = c.joined.ensures (take 32 (drop 0 digits)) (digits_valued (take 32 (drop 0 digits)) (take 16 (drop 0 digits)) (take 16 (drop 16 digits)) a b
    (parts_are digits 0 (omega (arith, long))) c.values_from-one.ensures c.values_from-two.ensures small.0) in
    let last = c.joined-2.ensures (take 32 (drop 28 digits)) (digits_valued (take 32 (drop 28 digits)) (take 16 (drop 28 digits)) (take 16 (drop 44 digits)) d e
    (parts_are digits 28 (omega (arith, long))) c.values_from-three.ensures c.values_from-four.ensures small.1) in
    sixty_read digits long c.joined.result c.joined-2.result first last
