use Rattle.trace_text.proofs.DigitVectors.{joined_written}
use Rattle.trace_text.proofs.octets.joined.Goals as goal

pub returns : goal.returns
returns c digits valued = joined_written c.args.first c.args.second digits c.fits-first.0 c.fits-second.0 valued
