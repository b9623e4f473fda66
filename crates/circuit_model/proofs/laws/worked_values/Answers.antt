use Rattle.std.proofs.Common.{refl}
use Rattle.circuit_model.specs.ALaw.{decision_values}
use Rattle.circuit_model.proofs.laws.worked_values.Goals as goal

pub returns-clause-values : goal.returns-clause-values
unfolding decision_values
returns-clause-values c = refl

pub returns-clause-zero : goal.returns-clause-zero
unfolding decision_values
returns-clause-zero c = refl

pub returns-clause-below_tie : goal.returns-clause-below_tie
unfolding decision_values
returns-clause-below_tie c = refl

pub returns-clause-tie : goal.returns-clause-tie
unfolding decision_values
returns-clause-tie c = refl

pub returns-clause-negative_tie : goal.returns-clause-negative_tie
unfolding decision_values
returns-clause-negative_tie c = refl

pub returns-clause-beyond : goal.returns-clause-beyond
unfolding decision_values
returns-clause-beyond c = refl

pub returns-clause-beyond_below : goal.returns-clause-beyond_below
unfolding decision_values
returns-clause-beyond_below c = refl

pub returns-clause-count : goal.returns-clause-count
unfolding decision_values
returns-clause-count c = refl

pub returns-clause-last : goal.returns-clause-last
unfolding decision_values
returns-clause-last c = refl
