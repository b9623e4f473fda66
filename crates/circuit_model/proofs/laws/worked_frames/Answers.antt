use Rattle.std.proofs.Common.{refl}
use Rattle.circuit_model.specs.ALaw.{decision_values}
use Rattle.circuit_model.proofs.laws.worked_frames.Goals as goal

pub returns-clause-room : goal.returns-clause-room
unfolding decision_values
returns-clause-room c = refl

pub returns-clause-loudest : goal.returns-clause-loudest
unfolding decision_values
returns-clause-loudest c = refl

pub returns-clause-alone : goal.returns-clause-alone
unfolding decision_values
returns-clause-alone c = refl

pub returns-clause-members : goal.returns-clause-members
unfolding decision_values
returns-clause-members c = refl
