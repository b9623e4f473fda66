use Rattle.std.proofs.Common.{◌≡◌, ◌≤◌, ◌-◌, length}
use Rattle.std.specs.List.{range_with_len}
use Rattle.exchange_core.specs.Boards.{turns_of}
use Rattle.exchange_core.specs.declared.tool.Tool.TheVariants.{Nothing}
use Rattle.tone_rules.specs.Tables.{table_of}
use Rattle.call_processor.specs.Alone.{HasOctets}
use Rattle.call_processor.specs.Frames.{IsReady}
use Rattle.call_processor.proofs.AloneLemmas.{GoesOn}
use Rattle.call_processor.proofs.sequential.run_sequential.Given as goal

abbrev pub invariant-loop-event : goal.invariant-loop-event
invariant-loop-event g l = record {
  seated : g.B.Switchboard.seated l.cx.board.now l.seat;
  goes : GoesOn g.K.AnswerSink.holds (g.B.Switchboard.board l.cx.board.now) (HasOctets g.C.Carrier.plays (table_of l.cx.trace.now.tones) (g.B.Switchboard.board l.cx.board.now)) (turns_of (g.B.Switchboard.board l.cx.board.now)) (range_with_len l.first (l.event - l.first)) (g.B.Switchboard.known l.fn.seat) l.fn.sink l.sink (g.B.Switchboard.known l.seat);
  from : l.first ≤ l.event;
  context : l.buffers.context.value.tool ≡ Nothing;
  ready : IsReady g.C.Carrier.carries g.C.Carrier.next g.C.Carrier.sizes (g.B.Switchboard.board l.cx.board.now) (g.B.Switchboard.known l.seat).seen l.machine.engine l.machine.context.tool;
  lines : length l.machine.octets.items ≡ (g.B.Switchboard.board l.cx.board.now).trace.external;
}
