use Rattle.std.proofs.Common.{arith}
use Rattle.report_text.proofs.Woven.{fours_written, eights_written}
use Rattle.report_text.proofs.digits.put_few_digits.Goals as goal

pub returns-then-octets-lt8-clause-digits : goal.returns-then-octets-lt8-clause-digits
returns-then-octets-lt8-clause-digits c =
    let d = c.digits_of.ensures in
    fours_written c.args.at _ _ c.args.text.now c.args.octets.now c.two_fours.result c.digits_of.result.0 c.digits_of.result.1 (omega arith) (omega arith)
    c.requires.octets.0 (omega (arith, c.if-octets-lt8.true)) (omega (arith, c.requires.room, c.requires.octets.1)) d.halves.0 d.digits c.two_fours.ensures

pub returns-else-octets-lt8-clause-digits : goal.returns-else-octets-lt8-clause-digits
returns-else-octets-lt8-clause-digits c =
    let d = c.digits_of-else-octets-lt8.ensures in
    eights_written c.args.at _ _ c.args.text.now c.args.octets.now c.two_eights.result c.digits_of-else-octets-lt8.result.0 c.digits_of-else-octets-lt8.result.1 (omega arith) (omega arith)
    (omega (arith, c.if-octets-lt8.false)) c.requires.octets.1 (omega (arith, c.requires.room, c.requires.octets.1)) d.halves.0 d.halves.1 d.digits c.two_eights.ensures
