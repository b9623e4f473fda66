use Rattle.std.proofs.Common.{refl}
use Rattle.q931_elements.specs.Reading.{elements_of, elements_within}
use Rattle.call_profile.specs.Legs.{slots_of}
use Rattle.call_profile.specs.Restarts.{outcome_below}
use Rattle.privacy.proofs.worked.worked_reports.Goals as goal

pub returns-clause-agrees : goal.returns-clause-agrees
unfolding elements_of elements_within outcome_below slots_of
returns-clause-agrees c = refl

pub returns-clause-differs : goal.returns-clause-differs
unfolding elements_of elements_within outcome_below slots_of
returns-clause-differs c = refl

pub returns-clause-foreign : goal.returns-clause-foreign
unfolding elements_of elements_within outcome_below slots_of
returns-clause-foreign c = refl

pub returns-clause-unasked : goal.returns-clause-unasked
unfolding elements_of elements_within outcome_below slots_of
returns-clause-unasked c = refl
