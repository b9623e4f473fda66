use Rattle.std.proofs.Common.{refl}
use Rattle.call_laws.proofs.DigitsLawLemmas.{lowest_idle_beside_same_choice, wants_slot, wants_port}
use Rattle.call_laws.proofs.calls.law_of_digits.Goals as goal

pub returns-clause-choice : goal.returns-clause-choice
returns-clause-choice c w x leg line at = lowest_idle_beside_same_choice w x leg at line

pub returns-clause-no_slot : goal.returns-clause-no_slot
returns-clause-no_slot c s w h called m at is = wants_slot s w h.slot called m h.leg at is

pub returns-clause-no_port : goal.returns-clause-no_port
returns-clause-no_port c s w x called m is = wants_port s w x called m is

pub returns-clause-unrecorded : goal.returns-clause-unrecorded
returns-clause-unrecorded c s w line h m dials = rw dials refl
