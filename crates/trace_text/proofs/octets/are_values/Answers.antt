use Rattle.trace_text.proofs.DigitVectors.{small_masked}
use Rattle.trace_text.proofs.octets.are_values.Goals as goal

pub returns : goal.returns
returns c = small_masked c.args.first c.args.second c.fits-first.0 c.fits-second.0
