use Rattle.call_laws.proofs.DroppedLineLemmas.{others_are_gone, cleared_stay, active_wait, other_lines_are_left}
use Rattle.call_laws.proofs.legs.law_of_link_failures.Goals as goal

pub returns-clause-gone : goal.returns-clause-gone
returns-clause-gone c = others_are_gone

pub returns-clause-stays : goal.returns-clause-stays
returns-clause-stays c = cleared_stay

pub returns-clause-waits : goal.returns-clause-waits
returns-clause-waits c = active_wait

pub returns-clause-others : goal.returns-clause-others
returns-clause-others c = other_lines_are_left
