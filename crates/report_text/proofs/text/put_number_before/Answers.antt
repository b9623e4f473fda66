use Rattle.std.proofs.Common.{◌≡◌, arith}
use Rattle.std.proofs.lemmas.Fmt.{length-decimal-le}
use Rattle.report_text.proofs.text.put_number_before.Goals as goal

pub write_digits-requires : goal.write_digits-requires
write_digits-requires c =
    let same : c.from.result ≡ c.args.number = c.from.ensures in
    let short = length-decimal-le 10 c.from.result (omega arith) (omega (arith, same, c.ranges.number.fits)) (omega (arith, same, c.ranges.number.fits)) in
    omega (arith, short, c.requires)

pub returns-clause-room : goal.returns-clause-room
returns-clause-room c =
    let same : c.from.result ≡ c.args.number = c.from.ensures in
    let short = length-decimal-le 10 c.from.result (omega arith) (omega (arith, same, c.ranges.number.fits)) (omega (arith, same, c.ranges.number.fits)) in
    omega (arith, short, c.write_digits.ensures.start)
