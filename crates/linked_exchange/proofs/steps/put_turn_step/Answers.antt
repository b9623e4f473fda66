use Rattle.std.proofs.Transfers.{starts_with_trans}
use Rattle.linked_exchange.proofs.steps.put_turn_step.Goals as goal

pub returns-clause-front : goal.returns-clause-front
returns-clause-front g c = starts_with_trans _ _ _ c.put_frame_end.ensures.front c.put_turn.ensures.front
