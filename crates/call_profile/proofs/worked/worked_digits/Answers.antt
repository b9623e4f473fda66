use Rattle.std.proofs.Common.{refl}
use Rattle.q931_elements.specs.Reading.{elements_of, elements_within}
use Rattle.call_profile.specs.Legs.{slots_of}
use Rattle.call_profile.proofs.worked.worked_digits.Goals as goal

pub returns-clause-in_three : goal.returns-clause-in_three
unfolding elements_of elements_within slots_of
returns-clause-in_three c = refl

pub returns-clause-dropped : goal.returns-clause-dropped
unfolding elements_of elements_within slots_of
returns-clause-dropped c = refl

pub returns-clause-wrong : goal.returns-clause-wrong
unfolding elements_of elements_within slots_of
returns-clause-wrong c = refl

pub returns-clause-faulty : goal.returns-clause-faulty
unfolding elements_of elements_within slots_of
returns-clause-faulty c = refl

pub returns-clause-longest : goal.returns-clause-longest
unfolding elements_of elements_within slots_of
returns-clause-longest c = refl

pub returns-clause-begun : goal.returns-clause-begun
unfolding elements_of elements_within slots_of
returns-clause-begun c = refl

pub returns-clause-ended : goal.returns-clause-ended
unfolding elements_of elements_within slots_of
returns-clause-ended c = refl

pub returns-clause-passed_on : goal.returns-clause-passed_on
unfolding elements_of elements_within slots_of
returns-clause-passed_on c = refl

pub returns-clause-full : goal.returns-clause-full
unfolding elements_of elements_within slots_of
returns-clause-full c = refl

pub returns-clause-own_line : goal.returns-clause-own_line
unfolding elements_of elements_within slots_of
returns-clause-own_line c = refl

pub returns-clause-room : goal.returns-clause-room
unfolding elements_of elements_within slots_of
returns-clause-room c = refl

pub returns-clause-no_port : goal.returns-clause-no_port
unfolding elements_of elements_within slots_of
returns-clause-no_port c = refl

pub returns-clause-others : goal.returns-clause-others
unfolding elements_of elements_within slots_of
returns-clause-others c = refl
