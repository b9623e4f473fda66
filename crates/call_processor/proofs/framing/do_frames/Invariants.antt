use Rattle.std.proofs.Common.{◌≡◌, ◌≤◌, length}
use Rattle.tone_rules.specs.Tables.{table_of}
use Rattle.exchange_events.specs.Orders.{Frame_worker}
use Rattle.call_processor.specs.Frames.{IsReady, HasFrame}
use Rattle.call_processor.proofs.KeepingLemmas.{Keeps}
use Rattle.call_processor.proofs.PartLemmas.{up_to}
use Rattle.call_processor.proofs.framing.do_frames.Given as goal

abbrev pub invariant-loop-event : goal.invariant-loop-event
invariant-loop-event g l = record {
  seated : g.B.Switchboard.seated l.cx.board.now l.seat;
  keeps : Keeps g.K.AnswerSink.holds (g.B.Switchboard.board l.cx.board.now) (HasFrame g.C.Carrier.plays (table_of l.cx.trace.now.tones) (g.B.Switchboard.board l.cx.board.now)) (up_to l.cx.trace.now Frame_worker l.first l.event) (g.B.Switchboard.known l.fn.seat) l.sink (g.B.Switchboard.known l.seat);
  from : l.first ≤ l.event;
  ready : IsReady g.C.Carrier.carries g.C.Carrier.next g.C.Carrier.sizes (g.B.Switchboard.board l.cx.board.now) (g.B.Switchboard.known l.seat).seen l.machine.engine l.machine.context.tool;
  lines : length l.machine.octets.items ≡ (g.B.Switchboard.board l.cx.board.now).trace.external;
}
