use Rattle.report_text.proofs.Shuffles.{SwzOk-sixteen, shuffled}
use Rattle.report_text.proofs.digits.byte_shuffle.Goals as goal

pub swizzle : goal.swizzle
swizzle c = SwzOk-sixteen c.args.places c.fits-places.0 c.requires

pub returns : goal.returns
returns c = shuffled c.args.table c.args.places c.fits-places.0 c.requires
