use Rattle.strict_map.proofs.NonBlocking.{moves_nothing, gets_a_slot}
use Rattle.strict_map.proofs.laws.nothing_moves.Goals as goal

pub returns-clause-unmoved : goal.returns-clause-unmoved
returns-clause-unmoved c = moves_nothing

pub returns-clause-slot : goal.returns-clause-slot
returns-clause-slot c = gets_a_slot
