use Rattle.circuit_model.specs.Ports.{free_ports}
use Rattle.circuit_model.proofs.PortSeats.{recorded, each_in, owned_in, alone_in, owner_of-ports_of_keeps, sums_in}
use Rattle.circuit_model.proofs.port_laws.law_of_ports.Goals as goal

pub returns-clause-each : goal.returns-clause-each
returns-clause-each c bridges cs f allowed x seated = each_in bridges cs f seated.0 seated.1 x (recorded bridges cs f allowed) seated.2

pub returns-clause-owned : goal.returns-clause-owned
returns-clause-owned c bridges cs f allowed k x owned = owned_in bridges cs f k x (recorded bridges cs f allowed) owned

pub returns-clause-alone : goal.returns-clause-alone
returns-clause-alone c bridges cs f allowed j k x a b = alone_in bridges cs f j k x (recorded bridges cs f allowed) a b

pub returns-clause-kept : goal.returns-clause-kept
returns-clause-kept c bridges f cs x seated k owned = owner_of-ports_of_keeps (free_ports bridges) cs f k seated.0 seated.1 x seated.2 seated.3 owned

pub returns-clause-sums : goal.returns-clause-sums
returns-clause-sums c bridges cs f allowed weight = sums_in bridges cs f weight (recorded bridges cs f allowed)
