use Rattle.std.proofs.Common.{refl}
use Rattle.q931_elements.specs.Reading.{elements_of, elements_within}
use Rattle.call_profile.specs.Legs.{slots_of}
use Rattle.call_profile.specs.Restarts.{outcome_below}
use Rattle.call_profile.proofs.worked.worked_overlap.Goals as goal

pub returns-clause-in_part : goal.returns-clause-in_part
unfolding elements_of elements_within slots_of outcome_below
returns-clause-in_part c = refl

pub returns-clause-pends : goal.returns-clause-pends
unfolding elements_of elements_within slots_of outcome_below
returns-clause-pends c = refl

pub returns-clause-refused : goal.returns-clause-refused
unfolding elements_of elements_within slots_of outcome_below
returns-clause-refused c = refl

pub returns-clause-no_plan : goal.returns-clause-no_plan
unfolding elements_of elements_within slots_of outcome_below
returns-clause-no_plan c = refl

pub returns-clause-unrecorded : goal.returns-clause-unrecorded
unfolding elements_of elements_within slots_of outcome_below
returns-clause-unrecorded c = refl

pub returns-clause-dropped : goal.returns-clause-dropped
unfolding elements_of elements_within slots_of outcome_below
returns-clause-dropped c = refl
