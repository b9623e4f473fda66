use Rattle.std.proofs.Common.{sym}
use Rattle.call_processor.specs.Frames.{IsReady}
use Rattle.exchange_run.proofs.Pending.{at_some}
use Rattle.exchange_run.proofs.segments.run_long.Goals as goal

pub run_segment_with-requires-clause-ready : goal.run_segment_with-requires-clause-ready
run_segment_with-requires-clause-ready g c lifetimes outlive =
    at_some (λ carried. IsReady g.C.Carrier.carries g.C.Carrier.next g.C.Carrier.sizes (g.B.Switchboard.board c.args.cx.now.board.now) (g.B.Switchboard.known c.args.seat.now).seen carried.machine.value.engine carried.machine.value.context.tool) _ c.taken-machine.result (sym c.taken-machine.ensures) c.requires.ready

pub returns-clause-whole : goal.returns-clause-whole
returns-clause-whole g c = c.in_ok-done.ensures.whole.whole

pub returns-clause-ready : goal.returns-clause-ready
returns-clause-ready g c = c.in_ok-done.ensures.whole.ready
