use Rattle.std.proofs.Common.{arith}
use Rattle.report_text.proofs.Woven.{sixteen_written}
use Rattle.report_text.proofs.digits.put_sixteen.Goals as goal

pub returns-clause-digits : goal.returns-clause-digits
returns-clause-digits c =
    let d = c.digits_of.ensures in
    sixteen_written c.args.text.now c.args.octets.now c.digits_of.result.0 c.digits_of.result.1 c.args.at _ _ (omega arith) (omega arith) c.requires.octets c.requires.room d.halves.0 d.halves.1 d.digits
