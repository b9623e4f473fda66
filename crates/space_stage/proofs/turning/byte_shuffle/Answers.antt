use Rattle.space_stage.proofs.Shuffles.{SwzOk-places, shuffled}
use Rattle.space_stage.proofs.turning.byte_shuffle.Goals as goal

pub swizzle : goal.swizzle
swizzle c = SwzOk-places c.args.places c.fits-places.0 c.requires

pub returns : goal.returns
returns c = shuffled c.args.table c.args.places c.fits-table.0 c.fits-places.0
