use Rattle.std.proofs.Common.{refl}
use Rattle.q931_elements.specs.Reading.{elements_of, elements_within}
use Rattle.call_profile.specs.Legs.{slots_of}
use Rattle.call_profile.specs.Restarts.{outcome_below}
use Rattle.privacy.proofs.worked.worked_restarts.Goals as goal

pub returns-clause-called : goal.returns-clause-called
unfolding elements_of elements_within outcome_below slots_of
returns-clause-called c = refl

pub returns-clause-caller : goal.returns-clause-caller
unfolding elements_of elements_within outcome_below slots_of
returns-clause-caller c = refl

pub returns-clause-silent : goal.returns-clause-silent
unfolding elements_of elements_within outcome_below slots_of
returns-clause-silent c = refl

pub returns-clause-deaf : goal.returns-clause-deaf
unfolding elements_of elements_within outcome_below slots_of
returns-clause-deaf c = refl

pub returns-clause-sent : goal.returns-clause-sent
unfolding elements_of elements_within outcome_below slots_of
returns-clause-sent c = refl

pub returns-clause-owed : goal.returns-clause-owed
unfolding elements_of elements_within outcome_below slots_of
returns-clause-owed c = refl

pub returns-clause-foreign : goal.returns-clause-foreign
unfolding elements_of elements_within outcome_below slots_of
returns-clause-foreign c = refl

pub returns-clause-alone : goal.returns-clause-alone
unfolding elements_of elements_within outcome_below slots_of
returns-clause-alone c = refl
