use Rattle.exchange_events.specs.Orders.{Processor}
use Rattle.exchange_tests.proofs.SeatLemmas.{length-part_of_first-le}
use Rattle.exchange_tests.proofs.tests.segments.processes.Goals as goal

pub process-worked-requires-clause-turns : goal.process-worked-requires-clause-turns
process-worked-requires-clause-turns g c lifetimes outlive = length-part_of_first-le c.args.trace.now 0 (Processor 0) _ c.requires.first
