use Rattle.traffic_gen.specs.Draws.{state_after}
use Rattle.traffic_gen.specs.Calls.{call_drawn}
use Rattle.traffic_gen.proofs.call.Call.drawn.Goals as goal

pub returns-clause-call : goal.returns-clause-call
unfolding state_after call_drawn
returns-clause-call c = cc

pub returns-clause-state : goal.returns-clause-state
unfolding state_after
returns-clause-state c = cc
