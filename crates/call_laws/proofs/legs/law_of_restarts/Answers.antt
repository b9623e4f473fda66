use Rattle.call_laws.proofs.RestartedLineLemmas.{leg_at_restarted_gone, leg_at_restarted_others, restarted_unheld}
use Rattle.call_laws.proofs.legs.law_of_restarts.Goals as goal

pub returns-clause-gone : goal.returns-clause-gone
returns-clause-gone c = leg_at_restarted_gone

pub returns-clause-others : goal.returns-clause-others
returns-clause-others c = leg_at_restarted_others

pub returns-clause-unheld : goal.returns-clause-unheld
returns-clause-unheld c = restarted_unheld
