use Rattle.std.proofs.Common.{refl}
use Rattle.circuit_model.specs.ALaw.{decision_values}
use Rattle.privacy.proofs.hearing_laws.worked_octets.Goals as goal

pub returns-clause-member : goal.returns-clause-member
unfolding decision_values
returns-clause-member c = refl

pub returns-clause-differs : goal.returns-clause-differs
unfolding decision_values
returns-clause-differs c = refl
