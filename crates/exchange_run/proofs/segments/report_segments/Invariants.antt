use Rattle.std.proofs.Common.{◌≡◌, [], ◌++◌, IsSomeAnd}
use Rattle.call_processor.specs.Frames.{IsReady}
use Rattle.report_lines.specs.Lines.{text_of}
use Rattle.meters.specs.Changing.{handed_in, steps_text}
use Rattle.exchange_run.specs.Running.{AreOfAnswers}
use Rattle.exchange_run.proofs.Steps.{AreOn}
use Rattle.exchange_run.proofs.Underway.{IsUnderway}
use Rattle.exchange_run.proofs.segments.report_segments.Given as goal

abbrev pub invariant-loop-segment : goal.invariant-loop-segment
invariant-loop-segment g l = record {
  kept : AreOfAnswers g.L.ListingKind.listing l.pending.lines;
  seated : g.B.Switchboard.seated l.cx.board.now l.seat;
  underway : IsUnderway g.C.Carrier.plays g.L.ListingKind.listing (g.B.Switchboard.board l.cx.board.now) (λ steps. steps_text (λ m. (goal.Meter-dyn g (m.vtable, m.value)).text m.value) steps (handed_in l.fn.metering.on.items l.fn.metering.spare.items)) l.segment (g.B.Switchboard.known l.seat) (g.K.Sink.written l.fn.sink) (g.K.Sink.written l.sink) (text_of l.pending.lines ++ l.pending.said.items) l.pending.said.items;
  silent : l.pending.said.items ≡ [];
  ready : IsSomeAnd l.carried (λ c. IsReady g.C.Carrier.carries g.C.Carrier.next g.C.Carrier.sizes (g.B.Switchboard.board l.cx.board.now) (g.B.Switchboard.known l.seat).seen c.machine.value.engine c.machine.value.context.tool);
  steady : g.K.Sink.faults l.sink ≡ g.K.Sink.faults l.fn.sink;
  on : AreOn (λ m. (goal.Meter-dyn g (m.vtable, m.value)).stands m.value) (λ m. (goal.Meter-dyn g (m.vtable, m.value)).text m.value) l.fn.metering.on.items l.fn.metering.spare.items g.C.Carrier.plays g.L.ListingKind.listing (g.B.Switchboard.board l.cx.board.now) l.segment (g.B.Switchboard.known l.seat) l.metering.on.items l.metering.spare.items l.made;
}
