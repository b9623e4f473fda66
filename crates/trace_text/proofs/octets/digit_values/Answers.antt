use Rattle.trace_text.proofs.DigitVectors.{values_are}
use Rattle.trace_text.proofs.octets.digit_values.Goals as goal

pub returns : goal.returns
returns c = values_are 16 c.args.digits c.fits-digits.0 c.fits-digits.1
