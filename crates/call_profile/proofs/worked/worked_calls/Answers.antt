use Rattle.std.proofs.Common.{refl}
use Rattle.q931_elements.specs.Reading.{elements_of, elements_within}
use Rattle.call_profile.specs.Legs.{slots_of}
use Rattle.call_profile.specs.Restarts.{outcome_below}
use Rattle.call_profile.specs.Expiring.{outcome_of_lines}
use Rattle.call_profile.proofs.worked.worked_calls.Goals as goal

pub returns-clause-whole : goal.returns-clause-whole
unfolding outcome_of_lines elements_of elements_within slots_of
returns-clause-whole c = refl

pub returns-clause-channel : goal.returns-clause-channel
unfolding elements_of elements_within slots_of
returns-clause-channel c = refl

pub returns-clause-collision : goal.returns-clause-collision
unfolding elements_of elements_within slots_of
returns-clause-collision c = refl

pub returns-clause-no_call : goal.returns-clause-no_call
unfolding elements_of elements_within slots_of
returns-clause-no_call c = refl

pub returns-clause-lenient : goal.returns-clause-lenient
unfolding elements_of elements_within slots_of
returns-clause-lenient c = refl

pub returns-clause-room : goal.returns-clause-room
unfolding elements_of elements_within slots_of
returns-clause-room c = refl

pub returns-clause-no_port : goal.returns-clause-no_port
unfolding elements_of elements_within slots_of
returns-clause-no_port c = refl

pub returns-clause-unexpected : goal.returns-clause-unexpected
unfolding elements_of elements_within slots_of
returns-clause-unexpected c = refl

pub returns-clause-full : goal.returns-clause-full
unfolding elements_of elements_within slots_of
returns-clause-full c = refl

pub returns-clause-hunt : goal.returns-clause-hunt
unfolding elements_of elements_within slots_of
returns-clause-hunt c = refl

pub returns-clause-restart_called : goal.returns-clause-restart_called
unfolding elements_of elements_within slots_of outcome_below
returns-clause-restart_called c = refl

pub returns-clause-restart_both : goal.returns-clause-restart_both
unfolding elements_of elements_within slots_of outcome_below
returns-clause-restart_both c = refl

pub returns-clause-restart_one : goal.returns-clause-restart_one
unfolding elements_of elements_within slots_of outcome_below
returns-clause-restart_one c = refl

pub returns-clause-ringback : goal.returns-clause-ringback
unfolding elements_of elements_within slots_of
returns-clause-ringback c = refl

pub returns-clause-rings : goal.returns-clause-rings
unfolding elements_of elements_within slots_of
returns-clause-rings c = refl

pub returns-clause-busy : goal.returns-clause-busy
unfolding outcome_of_lines elements_of elements_within slots_of
returns-clause-busy c = refl

pub returns-clause-sounds_busy : goal.returns-clause-sounds_busy
unfolding outcome_of_lines elements_of elements_within slots_of
returns-clause-sounds_busy c = refl

pub returns-clause-other_cause : goal.returns-clause-other_cause
unfolding elements_of elements_within slots_of
returns-clause-other_cause c = refl

pub returns-clause-no_tone : goal.returns-clause-no_tone
unfolding elements_of elements_within slots_of
returns-clause-no_tone c = refl

pub returns-clause-answered : goal.returns-clause-answered
unfolding elements_of elements_within slots_of
returns-clause-answered c = refl

pub returns-clause-not_given : goal.returns-clause-not_given
unfolding elements_of elements_within slots_of
returns-clause-not_given c = refl
