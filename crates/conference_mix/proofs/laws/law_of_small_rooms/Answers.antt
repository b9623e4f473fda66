use Rattle.conference_mix.proofs.Sums.{mixed_alone, mixed_pair}
use Rattle.conference_mix.proofs.laws.law_of_small_rooms.Goals as goal

pub returns : goal.returns
returns c = record { alone = mixed_alone; pair = mixed_pair }
