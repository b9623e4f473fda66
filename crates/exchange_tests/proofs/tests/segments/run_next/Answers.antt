use Rattle.std.proofs.Common.{arith}
use Rattle.segment_run.proofs.LoadLemmas.{length-events_of_segment-le}
use Rattle.segment_run.proofs.OrderLemmas.{numbers_left, IsDoneBelow_one_more, seen_done}
use Rattle.exchange_tests.proofs.tests.segments.run_next.Goals as goal

pub run_segment-requires-clause-numbers : goal.run_segment-requires-clause-numbers
run_segment-requires-clause-numbers g c lifetimes outlive = numbers_left c.args.trace.now c.args.segment _ c.requires.sound c.requires.segment c.requires.few

pub run_segment-requires-clause-turns : goal.run_segment-requires-clause-turns
run_segment-requires-clause-turns g c lifetimes outlive =
    let within = c.requires.segment in
    let v = g.B.Switchboard.known c.args.seat.now in
    length-events_of_segment-le (g.B.Switchboard.board c.args.board.now) c.args.trace.now c.args.segment v c.requires.trace c.requires.sound within c.requires.chief
    (seen_done c.args.trace.now c.args.segment v c.requires.sound (omega (arith, within)) c.requires.done)

pub returns-clause-done : goal.returns-clause-done
returns-clause-done g c =
    let v = g.B.Switchboard.known c.args.seat.now in
    let w = g.B.Switchboard.known c.run_segment.new.seat in
    IsDoneBelow_one_more c.args.trace.now c.args.segment v w c.requires.done c.run_segment.ensures.ran c.in_ok-answer.ensures.whole
