use Rattle.hex.specs.Hex.{upper_digits}
use Rattle.report_text.proofs.Woven.{woven}
use Rattle.report_text.proofs.digits.digits_of.Goals as goal

pub returns-clause-digits : goal.returns-clause-digits
returns-clause-digits c = woven upper_digits c.args.octets c.high_digits.result c.low_digits.result c.fits-octets.0 c.high_digits.ensures c.low_digits.ensures
