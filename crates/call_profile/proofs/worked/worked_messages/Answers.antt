use Rattle.std.proofs.Common.{refl}
use Rattle.q931_elements.specs.Reading.{elements_of, elements_within}
use Rattle.call_profile.specs.Legs.{slots_of}
use Rattle.call_profile.proofs.worked.worked_messages.Goals as goal

pub returns-clause-refused : goal.returns-clause-refused
unfolding elements_of elements_within slots_of
returns-clause-refused c = refl

pub returns-clause-no_cause : goal.returns-clause-no_cause
unfolding elements_of elements_within slots_of
returns-clause-no_cause c = refl

pub returns-clause-null_state : goal.returns-clause-null_state
unfolding elements_of elements_within slots_of
returns-clause-null_state c = refl

pub returns-clause-releases : goal.returns-clause-releases
unfolding elements_of elements_within slots_of
returns-clause-releases c = refl

pub returns-clause-given_again : goal.returns-clause-given_again
unfolding elements_of elements_within slots_of
returns-clause-given_again c = refl

pub returns-clause-passed_on : goal.returns-clause-passed_on
unfolding elements_of elements_within slots_of
returns-clause-passed_on c = refl
