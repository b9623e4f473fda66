use Rattle.std.proofs.Common.{refl, arith}
use Rattle.segment_run.proofs.LoadLemmas.{length-events_of_segment-le}
use Rattle.segment_run.proofs.OrderLemmas.{seen_done, numbers_left}
use Rattle.segment_run.proofs.laws.segments_leave_room.Goals as goal

pub returns-clause-long : goal.returns-clause-long
returns-clause-long c t k v sound within below = seen_done t k v sound within below

pub returns-clause-numbers : goal.returns-clause-numbers
returns-clause-numbers c t k made sound within few = numbers_left t k made sound within few

pub returns-clause-turns : goal.returns-clause-turns
returns-clause-turns c b k v sound within chief below = length-events_of_segment-le b b.trace k v refl sound within chief (seen_done b.trace k v sound (omega (arith, within)) below)
