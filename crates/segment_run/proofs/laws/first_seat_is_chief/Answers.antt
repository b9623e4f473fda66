use Rattle.segment_run.proofs.OrderLemmas.{first_chief}
use Rattle.segment_run.proofs.laws.first_seat_is_chief.Goals as goal

pub returns : goal.returns
returns c turns = first_chief turns
