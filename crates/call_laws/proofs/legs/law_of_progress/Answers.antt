use Rattle.call_laws.proofs.ProgressLemmas.{act_tells, setup_tells, restart_tells, answer_tells, expiry_tells}
use Rattle.call_laws.proofs.legs.law_of_progress.Goals as goal

pub returns-clause-acts : goal.returns-clause-acts
returns-clause-acts c = act_tells

pub returns-clause-setups : goal.returns-clause-setups
returns-clause-setups c = setup_tells

pub returns-clause-restarts : goal.returns-clause-restarts
returns-clause-restarts c = restart_tells

pub returns-clause-answers : goal.returns-clause-answers
returns-clause-answers c = answer_tells

pub returns-clause-expiries : goal.returns-clause-expiries
returns-clause-expiries c s w h e stands in_x at = expiry_tells s w h stands in_x at e
