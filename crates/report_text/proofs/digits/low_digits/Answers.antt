use Rattle.hex.specs.Hex.{upper_digits}
use Rattle.report_text.proofs.Shuffles.{low_halves, found_low}
use Rattle.report_text.proofs.digits.low_digits.Goals as goal

pub byte_shuffle-requires : goal.byte_shuffle-requires
byte_shuffle-requires c = low_halves c.args.octets

pub returns : goal.returns
returns c = found_low upper_digits c.args.octets c.byte_shuffle.result c.fits-octets.0 c.byte_shuffle.ensures
