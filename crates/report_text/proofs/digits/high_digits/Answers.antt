use Rattle.hex.specs.Hex.{upper_digits}
use Rattle.report_text.proofs.Shuffles.{high_halves, found_high}
use Rattle.report_text.proofs.digits.high_digits.Goals as goal

pub byte_shuffle-requires : goal.byte_shuffle-requires
byte_shuffle-requires c = high_halves c.args.octets c.fits-octets

pub returns : goal.returns
returns c = found_high upper_digits c.args.octets c.byte_shuffle.result c.fits-octets.0 c.byte_shuffle.ensures
