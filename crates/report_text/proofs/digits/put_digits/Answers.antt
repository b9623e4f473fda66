use Rattle.std.proofs.Common.{List, ℕ, ◌+◌, ◌*◌, ◌-◌, ◌++◌, ◌∙◌, length, take, ap, arith}
use Rattle.std.proofs.lemmas.List.{take_rest}
use Rattle.hex.specs.Hex.{encode_upper}
use Rattle.report_text.proofs.Woven.{long_written}
use Rattle.report_text.proofs.digits.put_digits.Goals as goal

pub returns-else-octets-lt16 : goal.returns-else-octets-lt16
returns-else-octets-lt16 c =
    let octets : List ℕ = c.args.octets.now in
    let one : List ℕ = c.put_sixteen.new.text in
    let back : ℕ = length octets - 16 in
    let rest = take_rest octets back in
    long_written c.args.text.now one c.put_sixteen-else-octets-lt16.new.text octets c.told-text (omega (arith, c.if-octets-lt16.false)) c.requires c.put_sixteen.ensures.digits
    (c.put_sixteen-else-octets-lt16.ensures.digits ∙ ap (λ (l : List ℕ). take (22 + 2 * back) one ++ encode_upper l) rest)
