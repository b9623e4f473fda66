use Rattle.std.proofs.Common.{rules, length, ap, arith}
use Rattle.exchange_events.specs.declared.trace.Trace.{Trace}
use Rattle.exchange_tests.proofs.SeatLemmas.{first_has_done, first_is_chief, first_is_ready, first_made}
use Rattle.exchange_tests.proofs.tests.segments.equipped.Goals as goal

pub returns-clause-chief : goal.returns-clause-chief
returns-clause-chief g c = first_is_chief _ _ _ (ap (λ (t : Trace). length t.events) c.in_ok-board.ensures.board) c.in_ok-board.ensures.seat

pub returns-clause-few : goal.returns-clause-few
returns-clause-few g c = let made = first_made _ _ c.in_ok-board.ensures.seat in omega (arith, made)

pub returns-clause-done : goal.returns-clause-done
returns-clause-done g c = first_has_done _ _ _ c.in_ok-board.ensures.seat

pub returns-clause-ready : goal.returns-clause-ready
returns-clause-ready g c = first_is_ready _ _ _ _ _ _ _ _ c.in_ok-board.ensures.seat (search rules)
