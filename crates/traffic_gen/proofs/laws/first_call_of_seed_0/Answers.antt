use Rattle.std.proofs.Common.{refl}
use Rattle.traffic_gen.specs.Draws.{drawn, next_state, state_after}
use Rattle.traffic_gen.proofs.laws.first_call_of_seed_0.Goals as goal

pub returns-clause-first : goal.returns-clause-first
unfolding state_after next_state
returns-clause-first c = refl

pub returns-clause-second : goal.returns-clause-second
unfolding state_after next_state
returns-clause-second c = refl

pub returns-clause-third : goal.returns-clause-third
unfolding state_after next_state
returns-clause-third c = refl

pub returns-clause-caller : goal.returns-clause-caller
unfolding state_after next_state drawn
returns-clause-caller c = refl

pub returns-clause-called : goal.returns-clause-called
unfolding state_after next_state drawn
returns-clause-called c = refl

pub returns-clause-frames : goal.returns-clause-frames
unfolding state_after next_state drawn
returns-clause-frames c = refl
