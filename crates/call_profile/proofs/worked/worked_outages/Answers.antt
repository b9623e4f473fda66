use Rattle.std.proofs.Common.{refl}
use Rattle.q931_elements.specs.Reading.{elements_of, elements_within}
use Rattle.call_profile.specs.Expiring.{outcome_of_lines}
use Rattle.call_profile.specs.Legs.{slots_of}
use Rattle.call_profile.specs.Restarts.{outcome_below}
use Rattle.call_profile.proofs.worked.worked_outages.Goals as goal

pub returns-clause-clearing : goal.returns-clause-clearing
unfolding elements_of elements_within outcome_of_lines outcome_below slots_of
returns-clause-clearing c = refl

pub returns-clause-clearing_again : goal.returns-clause-clearing_again
unfolding elements_of elements_within outcome_of_lines outcome_below slots_of
returns-clause-clearing_again c = refl

pub returns-clause-given_up : goal.returns-clause-given_up
unfolding elements_of elements_within outcome_of_lines outcome_below slots_of
returns-clause-given_up c = refl

pub returns-clause-restarted : goal.returns-clause-restarted
unfolding elements_of elements_within outcome_of_lines outcome_below slots_of
returns-clause-restarted c = refl

pub returns-clause-released : goal.returns-clause-released
unfolding elements_of elements_within outcome_of_lines outcome_below slots_of
returns-clause-released c = refl

pub returns-clause-waits_anew : goal.returns-clause-waits_anew
unfolding elements_of elements_within outcome_of_lines outcome_below slots_of
returns-clause-waits_anew c = refl

pub returns-clause-left : goal.returns-clause-left
unfolding elements_of elements_within outcome_of_lines outcome_below slots_of
returns-clause-left c = refl

pub returns-clause-over : goal.returns-clause-over
unfolding elements_of elements_within outcome_of_lines outcome_below slots_of
returns-clause-over c = refl

pub returns-clause-gone : goal.returns-clause-gone
unfolding elements_of elements_within outcome_of_lines outcome_below slots_of
returns-clause-gone c = refl

pub returns-clause-alerted : goal.returns-clause-alerted
unfolding elements_of elements_within outcome_of_lines outcome_below slots_of
returns-clause-alerted c = refl

pub returns-clause-beside : goal.returns-clause-beside
unfolding elements_of elements_within outcome_of_lines outcome_below slots_of
returns-clause-beside c = refl

pub returns-clause-late : goal.returns-clause-late
unfolding elements_of elements_within outcome_of_lines outcome_below slots_of
returns-clause-late c = refl

pub returns-clause-reported : goal.returns-clause-reported
unfolding elements_of elements_within outcome_of_lines outcome_below slots_of
returns-clause-reported c = refl

pub returns-clause-confirmed : goal.returns-clause-confirmed
unfolding elements_of elements_within outcome_of_lines outcome_below slots_of
returns-clause-confirmed c = refl

pub returns-clause-ended : goal.returns-clause-ended
unfolding elements_of elements_within outcome_of_lines outcome_below slots_of
returns-clause-ended c = refl

pub returns-clause-unasked : goal.returns-clause-unasked
unfolding elements_of elements_within outcome_of_lines outcome_below slots_of
returns-clause-unasked c = refl

pub returns-clause-answered : goal.returns-clause-answered
unfolding elements_of elements_within outcome_of_lines outcome_below slots_of
returns-clause-answered c = refl

pub returns-clause-both_lost : goal.returns-clause-both_lost
unfolding elements_of elements_within outcome_of_lines outcome_below slots_of
returns-clause-both_lost c = refl
