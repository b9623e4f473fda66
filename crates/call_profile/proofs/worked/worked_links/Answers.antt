use Rattle.std.proofs.Common.{refl}
use Rattle.q931_elements.specs.Reading.{elements_of, elements_within}
use Rattle.call_profile.specs.Expiring.{outcome_of_lines}
use Rattle.call_profile.specs.Legs.{slots_of}
use Rattle.call_profile.specs.Restarts.{outcome_below}
use Rattle.call_profile.proofs.worked.worked_links.Goals as goal

pub returns-clause-alerted : goal.returns-clause-alerted
unfolding elements_of elements_within outcome_of_lines outcome_below slots_of
returns-clause-alerted c = refl

pub returns-clause-refused : goal.returns-clause-refused
unfolding elements_of elements_within outcome_of_lines outcome_below slots_of
returns-clause-refused c = refl

pub returns-clause-own_line : goal.returns-clause-own_line
unfolding elements_of elements_within outcome_of_lines outcome_below slots_of
returns-clause-own_line c = refl

pub returns-clause-outage : goal.returns-clause-outage
unfolding elements_of elements_within outcome_of_lines outcome_below slots_of
returns-clause-outage c = refl

pub returns-clause-again : goal.returns-clause-again
unfolding elements_of elements_within outcome_of_lines outcome_below slots_of
returns-clause-again c = refl

pub returns-clause-up : goal.returns-clause-up
unfolding elements_of elements_within outcome_of_lines outcome_below slots_of
returns-clause-up c = refl

pub returns-clause-in_time : goal.returns-clause-in_time
unfolding elements_of elements_within outcome_of_lines outcome_below slots_of
returns-clause-in_time c = refl

pub returns-clause-reset : goal.returns-clause-reset
unfolding elements_of elements_within outcome_of_lines outcome_below slots_of
returns-clause-reset c = refl
