use Rattle.std.proofs.Common.{refl}
use Rattle.q931_elements.specs.Reading.{elements_of, elements_within}
use Rattle.clearing_rules.proofs.laws.worked_answers.Goals as goal

pub returns-clause-status : goal.returns-clause-status
unfolding elements_of elements_within
returns-clause-status c = refl

pub returns-clause-status_from_called : goal.returns-clause-status_from_called
unfolding elements_of elements_within
returns-clause-status_from_called c = refl

pub returns-clause-status_of_null : goal.returns-clause-status_of_null
unfolding elements_of elements_within
returns-clause-status_of_null c = refl

pub returns-clause-status_without_state : goal.returns-clause-status_without_state
unfolding elements_of elements_within
returns-clause-status_without_state c = refl
