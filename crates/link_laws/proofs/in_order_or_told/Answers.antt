use Rattle.link_laws.proofs.EpochLemmas.{in_order_always, arrived_always}
use Rattle.link_laws.proofs.in_order_or_told.Goals as goal

pub returns-clause-order : goal.returns-clause-order
returns-clause-order c events p at timely = in_order_always events p at timely

pub returns-clause-arrived : goal.returns-clause-arrived
returns-clause-arrived c events p at timely = arrived_always events p at timely
