use Rattle.time_stage.proofs.Fetches.{are_numbers, front_places, back_places, fetched_all}
use Rattle.time_stage.proofs.store.fetch_sixteen.Goals as goal

pub byte_shuffle-requires : goal.byte_shuffle-requires
byte_shuffle-requires c = front_places c.args.places c.fits-places.0 (are_numbers c.args.places c.fits-places.1 c.requires.places)

pub byte_shuffle-requires-2 : goal.byte_shuffle-requires-2
byte_shuffle-requires-2 c = back_places c.args.places c.fits-places.0 (are_numbers c.args.places c.fits-places.1 c.requires.places)

pub returns : goal.returns
returns c = fetched_all c.args.places c.fits-places.0 (are_numbers c.args.places c.fits-places.1 c.requires.places) c.args.octets.now (λ k. (c.type_inv.octets k).fits) c.requires.octets _ _ c.byte_shuffle.ensures c.byte_shuffle-2.ensures
