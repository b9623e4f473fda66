use Rattle.alaw_codec.proofs.Tables.{compress_round_trip}
use Rattle.alaw_codec.proofs.law_of_round_trip.Goals as goal

pub returns : goal.returns
returns c = compress_round_trip
