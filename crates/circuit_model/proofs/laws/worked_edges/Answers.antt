use Rattle.std.proofs.Common.{refl}
use Rattle.circuit_model.specs.ALaw.{decision_values}
use Rattle.circuit_model.proofs.laws.worked_edges.Goals as goal

pub returns-clause-quiet_members : goal.returns-clause-quiet_members
unfolding decision_values
returns-clause-quiet_members c = refl

pub returns-clause-stayed : goal.returns-clause-stayed
unfolding decision_values
returns-clause-stayed c = refl

pub returns-clause-newcomer : goal.returns-clause-newcomer
unfolding decision_values
returns-clause-newcomer c = refl

pub returns-clause-apart : goal.returns-clause-apart
unfolding decision_values
returns-clause-apart c = refl

pub returns-clause-once : goal.returns-clause-once
unfolding decision_values
returns-clause-once c = refl
