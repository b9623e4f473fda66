use Rattle.std.proofs.Common.{◌≡◌, ◌≤◌}
use Rattle.exchange_core.specs.declared.tool.Tool.TheVariants.{Nothing}
use Rattle.exchange_events.specs.Orders.{Processor}
use Rattle.call_processor.specs.Keeping.{has_no_octets}
use Rattle.call_processor.proofs.KeepingLemmas.{Keeps}
use Rattle.call_processor.proofs.PartLemmas.{up_to}
use Rattle.call_processor.proofs.processing.do_events.Given as goal

abbrev pub invariant-loop-event : goal.invariant-loop-event
invariant-loop-event g l = record {
  seated : g.B.Switchboard.seated l.cx.board.now l.seat;
  keeps : Keeps g.K.AnswerSink.holds (g.B.Switchboard.board l.cx.board.now) (λ w. has_no_octets) (up_to l.cx.trace.now (Processor l.processor) l.first l.event) (g.B.Switchboard.known l.fn.seat) l.sink (g.B.Switchboard.known l.seat);
  from : l.first ≤ l.event;
  tool : l.context.tool ≡ Nothing;
}
