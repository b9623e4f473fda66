use Rattle.traffic_gen.proofs.Counts.{events_are_few, length-traffic_lines-le, traffic_length}
use Rattle.traffic_gen.proofs.laws.law_of_lengths.Goals as goal

pub returns-clause-lines : goal.returns-clause-lines
returns-clause-lines c = length-traffic_lines-le

pub returns-clause-events : goal.returns-clause-events
returns-clause-events c = events_are_few

pub returns-clause-octets : goal.returns-clause-octets
returns-clause-octets c = traffic_length
