use Rattle.space_stage.proofs.Slots.{are_numbers, bytes, low_places, high_places, looked_up_all}
use Rattle.space_stage.proofs.turning.looked_up.Goals as goal

pub byte_shuffle-requires : goal.byte_shuffle-requires
byte_shuffle-requires c = low_places c.args.numbers c.fits-numbers.0 (are_numbers c.args.numbers c.fits-numbers.1 c.requires)

pub byte_shuffle-requires-2 : goal.byte_shuffle-requires-2
byte_shuffle-requires-2 c = high_places c.args.numbers c.fits-numbers.0 (are_numbers c.args.numbers c.fits-numbers.1 c.requires)

pub returns : goal.returns
returns c =
    looked_up_all c.args.numbers c.fits-numbers.0 (are_numbers c.args.numbers c.fits-numbers.1 c.requires) c.args.low c.args.high c.byte_shuffle.result c.byte_shuffle-2.result c.fits-low.0 c.fits-high.0
    (bytes c.args.low c.fits-low.1) (bytes c.args.high c.fits-high.1) c.byte_shuffle.ensures c.byte_shuffle-2.ensures
