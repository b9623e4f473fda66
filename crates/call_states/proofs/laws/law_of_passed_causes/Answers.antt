use Rattle.q931_codec.specs.Contents.{call_state_in}
use Rattle.call_states.specs.Acts.{clearing_cause}
use Rattle.call_states.proofs.Causes.{act_fits, cause_fits}
use Rattle.call_states.proofs.laws.law_of_passed_causes.Goals as goal

pub returns : goal.returns
returns c state m = act_fits state m.kind (clearing_cause m.elements) (call_state_in m.elements) (cause_fits m.elements)
