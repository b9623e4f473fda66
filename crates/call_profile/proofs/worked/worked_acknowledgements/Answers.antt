use Rattle.std.proofs.Common.{refl}
use Rattle.q931_elements.specs.Reading.{elements_of, elements_within}
use Rattle.call_profile.specs.Expiring.{outcome_of_lines}
use Rattle.call_profile.specs.Legs.{slots_of}
use Rattle.call_profile.specs.Restarts.{outcome_below}
use Rattle.call_profile.proofs.worked.worked_acknowledgements.Goals as goal

pub returns-clause-repeated : goal.returns-clause-repeated
unfolding elements_of elements_within outcome_of_lines outcome_below slots_of
returns-clause-repeated c = refl

pub returns-clause-acknowledged : goal.returns-clause-acknowledged
unfolding elements_of elements_within outcome_of_lines outcome_below slots_of
returns-clause-acknowledged c = refl

pub returns-clause-one_acknowledged : goal.returns-clause-one_acknowledged
unfolding elements_of elements_within outcome_of_lines outcome_below slots_of
returns-clause-one_acknowledged c = refl

pub returns-clause-without_reply : goal.returns-clause-without_reply
unfolding elements_of elements_within outcome_of_lines outcome_below slots_of
returns-clause-without_reply c = refl

pub returns-clause-beside_a_call : goal.returns-clause-beside_a_call
unfolding elements_of elements_within outcome_of_lines outcome_below slots_of
returns-clause-beside_a_call c = refl

pub returns-clause-one_confirmed : goal.returns-clause-one_confirmed
unfolding elements_of elements_within outcome_of_lines outcome_below slots_of
returns-clause-one_confirmed c = refl

pub returns-clause-other_confirmed : goal.returns-clause-other_confirmed
unfolding elements_of elements_within outcome_of_lines outcome_below slots_of
returns-clause-other_confirmed c = refl

pub returns-clause-owed : goal.returns-clause-owed
unfolding elements_of elements_within outcome_of_lines outcome_below slots_of
returns-clause-owed c = refl
