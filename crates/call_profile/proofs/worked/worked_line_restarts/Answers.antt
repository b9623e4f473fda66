use Rattle.std.proofs.Common.{refl}
use Rattle.q931_elements.specs.Reading.{elements_of, elements_within}
use Rattle.call_profile.specs.Expiring.{outcome_of_lines}
use Rattle.call_profile.specs.Legs.{slots_of}
use Rattle.call_profile.specs.Restarts.{outcome_below}
use Rattle.call_profile.proofs.worked.worked_line_restarts.Goals as goal

pub returns-clause-conversation : goal.returns-clause-conversation
unfolding elements_of elements_within outcome_of_lines outcome_below slots_of
returns-clause-conversation c = refl

pub returns-clause-called_again : goal.returns-clause-called_again
unfolding elements_of elements_within outcome_of_lines outcome_below slots_of
returns-clause-called_again c = refl

pub returns-clause-down : goal.returns-clause-down
unfolding elements_of elements_within outcome_of_lines outcome_below slots_of
returns-clause-down c = refl

pub returns-clause-up : goal.returns-clause-up
unfolding elements_of elements_within outcome_of_lines outcome_below slots_of
returns-clause-up c = refl

pub returns-clause-empty : goal.returns-clause-empty
unfolding elements_of elements_within outcome_of_lines outcome_below slots_of
returns-clause-empty c = refl

pub returns-clause-called : goal.returns-clause-called
unfolding elements_of elements_within outcome_of_lines outcome_below slots_of
returns-clause-called c = refl

pub returns-clause-own_line : goal.returns-clause-own_line
unfolding elements_of elements_within outcome_of_lines outcome_below slots_of
returns-clause-own_line c = refl
