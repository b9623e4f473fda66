use Rattle.exchange_laws.proofs.PeerLemmas.{in_order_on_line, arrived_on_line}
use Rattle.exchange_laws.proofs.linked_laws.in_order_on_a_line.Goals as goal

pub returns-clause-order : goal.returns-clause-order
returns-clause-order c = in_order_on_line

pub returns-clause-arrived : goal.returns-clause-arrived
returns-clause-arrived c = arrived_on_line
