use Rattle.std.proofs.Common.{◌%◌, arith, sym, ◌∙◌}
use Rattle.std.specs.Char.{is_ascii_digit}
use Rattle.std.proofs.lemmas.Bool.{cond-false}
use Rattle.q931_codec.proofs.Digits.{not_all}
use Rattle.q931_codec.proofs.numbers.decimal_digits.Goals as goal

-- one that is no digit
pub returns-then-not-is_ascii_digit : goal.returns-then-not-is_ascii_digit
returns-then-not-is_ascii_digit c =
    let other = sym c.is_ascii_digit.ensures.value ∙ c.if-not-is_ascii_digit.true in
    sym (cond-false _ _ _ (not_all is_ascii_digit (λ octet. octet % 0x80) c.args.octets.now c.loop-octet.octet-index _ (omega (arith, c.loop-octet-test.true)) other))
