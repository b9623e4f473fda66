use Rattle.std.proofs.Common.{rules, ◌≡◌, false, subst}
use Rattle.exchange_core.specs.Boards.{turns_of}
use Rattle.exchange_events.specs.declared.trace.Trace.{Trace}
use Rattle.exchange_events.specs.Orders.{Frame_worker}
use Rattle.tone_rules.specs.Tables.{table_of}
use Rattle.call_processor.specs.Alone.{HasOctets}
use Rattle.call_processor.specs.Keeping.{has_no_octets}
use Rattle.call_processor.specs.Parts.{is_its}
use Rattle.call_processor.proofs.AloneLemmas.{kept_said, not_frame, quiet_octets, ready_next}
use Rattle.call_processor.proofs.KeepingLemmas.{on_ok}
use Rattle.call_processor.proofs.sequential.do_next.Goals as goal

pub returns-in_default-clause-ready : goal.returns-in_default-clause-ready
returns-in_default-clause-ready g c =
    let K = g.B.Switchboard.known in
    let board = g.B.Switchboard.board c.args.cx.now.board.now in
    let event = c.args.event in
    let off : is_its c.args.cx.now.trace.now Frame_worker event ≡ false = search rules in
    let none = not_frame board.trace event (subst (λ (t : Trace). is_its t Frame_worker event ≡ false) c.requires.trace off) in
    ready_next g.C.Carrier.carries g.C.Carrier.next g.C.Carrier.sizes board (turns_of board) event (K c.args.seat.now) (K c.do_event.new.seat)
    c.args.machine.now.engine c.args.machine.now.context.tool none (c.do_event.ensures.next c.requires.only) c.requires.ready

pub returns-in_default-clause-kept : goal.returns-in_default-clause-kept
returns-in_default-clause-kept g c =
    let board = g.B.Switchboard.board c.args.cx.now.board.now in
    let event = c.args.event in
    let w = g.B.Switchboard.known c.do_event.new.seat in
    let plays = g.C.Carrier.plays in
    let tones = table_of c.args.cx.now.trace.now.tones in
    let off : is_its c.args.cx.now.trace.now Frame_worker event ≡ false = search rules in
    let none = not_frame board.trace event (subst (λ (t : Trace). is_its t Frame_worker event ≡ false) c.requires.trace off) in
    on_ok c.do_event.result (kept_said g.K.AnswerSink.holds board w event has_no_octets (HasOctets plays tones board w) c.args.sink.now c.do_event.new.sink (quiet_octets plays tones board w event none)) c.do_event.ensures.kept
