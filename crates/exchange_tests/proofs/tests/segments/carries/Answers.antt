use Rattle.std.proofs.Common.{length, sym, ap, arith}
use Rattle.exchange_events.specs.Orders.{Frame_worker}
use Rattle.exchange_events.specs.declared.trace.Trace.{Trace}
use Rattle.exchange_tests.proofs.SeatLemmas.{length-part_of_chief-le}
use Rattle.exchange_tests.proofs.tests.segments.carries.Goals as goal

pub run_frames-framed-requires-clause-turns : goal.run_frames-framed-requires-clause-turns
run_frames-framed-requires-clause-turns g c lifetimes outlive =
    let segments = c.requires.segments in
    let turns = ap (λ (t : Trace). length t.events) (sym c.requires.trace) in
    length-part_of_chief-le c.args.trace.now 1 Frame_worker _ _ turns c.requires.sound (omega (arith, segments)) c.run_next.ensures.chief c.in_ok-nailed.ensures.done
