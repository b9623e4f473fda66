use Rattle.std.proofs.Common.{refl}
use Rattle.q931_elements.specs.Reading.{elements_of, elements_within}
use Rattle.call_profile.specs.Expiring.{outcome_of_lines}
use Rattle.call_profile.specs.Legs.{slots_of}
use Rattle.call_profile.specs.Restarts.{outcome_below}
use Rattle.call_profile.proofs.worked.worked_expiries.Goals as goal

pub returns-clause-early : goal.returns-clause-early
unfolding elements_of elements_within outcome_of_lines slots_of
returns-clause-early c = refl

pub returns-clause-setup : goal.returns-clause-setup
unfolding elements_of elements_within outcome_of_lines slots_of
returns-clause-setup c = refl

pub returns-clause-waits_anew : goal.returns-clause-waits_anew
unfolding elements_of elements_within outcome_of_lines slots_of
returns-clause-waits_anew c = refl

pub returns-clause-setup_over : goal.returns-clause-setup_over
unfolding elements_of elements_within outcome_of_lines slots_of
returns-clause-setup_over c = refl

pub returns-clause-proceeding : goal.returns-clause-proceeding
unfolding elements_of elements_within outcome_of_lines slots_of
returns-clause-proceeding c = refl

pub returns-clause-two_records : goal.returns-clause-two_records
unfolding elements_of elements_within outcome_of_lines slots_of
returns-clause-two_records c = refl

pub returns-clause-alerting : goal.returns-clause-alerting
unfolding elements_of elements_within outcome_of_lines slots_of
returns-clause-alerting c = refl

pub returns-clause-alerted_again : goal.returns-clause-alerted_again
unfolding elements_of elements_within outcome_of_lines slots_of
returns-clause-alerted_again c = refl

pub returns-clause-answered : goal.returns-clause-answered
unfolding elements_of elements_within outcome_of_lines slots_of
returns-clause-answered c = refl

pub returns-clause-digits : goal.returns-clause-digits
unfolding elements_of elements_within outcome_of_lines slots_of
returns-clause-digits c = refl

pub returns-clause-release : goal.returns-clause-release
unfolding elements_of elements_within outcome_of_lines slots_of
returns-clause-release c = refl

pub returns-clause-release_again : goal.returns-clause-release_again
unfolding elements_of elements_within outcome_of_lines slots_of
returns-clause-release_again c = refl

pub returns-clause-gone : goal.returns-clause-gone
unfolding elements_of elements_within outcome_of_lines slots_of
returns-clause-gone c = refl

pub returns-clause-unconfirmed : goal.returns-clause-unconfirmed
unfolding elements_of elements_within outcome_of_lines slots_of
returns-clause-unconfirmed c = refl

pub returns-clause-restarted : goal.returns-clause-restarted
unfolding elements_of elements_within outcome_of_lines outcome_below slots_of
returns-clause-restarted c = refl
