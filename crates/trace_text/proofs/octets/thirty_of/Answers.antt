use Rattle.trace_text.proofs.DigitVectors.{thirty_put}
use Rattle.trace_text.proofs.octets.thirty_of.Goals as goal

pub returns : goal.returns
returns c = thirty_put c.args.first c.args.last c.fits-first.0 c.fits-last.0
