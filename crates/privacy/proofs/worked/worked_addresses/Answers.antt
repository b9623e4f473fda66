use Rattle.std.proofs.Common.{refl}
use Rattle.q931_elements.specs.Reading.{elements_of, elements_within}
use Rattle.call_profile.specs.Legs.{slots_of}
use Rattle.privacy.proofs.worked.worked_addresses.Goals as goal

pub returns-clause-second : goal.returns-clause-second
unfolding elements_of elements_within slots_of
returns-clause-second c = (0, refl, refl)

pub returns-clause-side : goal.returns-clause-side
unfolding elements_of elements_within slots_of
returns-clause-side c = (0, refl, refl)

pub returns-clause-foreign : goal.returns-clause-foreign
unfolding elements_of elements_within slots_of
returns-clause-foreign c = refl

pub returns-clause-silent : goal.returns-clause-silent
unfolding elements_of elements_within slots_of
returns-clause-silent c = refl
