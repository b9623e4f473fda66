use Rattle.std.proofs.Common.{rules, ◌≡◌, ◌+◌, Bool, true, false, is_ok, [], ◌∷◌, ◌++◌, ap, sym, ◌∙◌, subst}
use Rattle.exchange_events.specs.declared.trace.Trace.{Trace}
use Rattle.exchange_events.specs.Orders.{Processor, IsEvent}
use Rattle.exchange_core.specs.Ahead.{IsReadAt}
use Rattle.call_processor.specs.Keeping.{KeepsWork, has_no_octets}
use Rattle.exchange_events.specs.Sound.{IsSound}
use Rattle.call_processor.specs.Parts.{is_its, part_of}
use Rattle.call_processor.proofs.KeepingLemmas.{keeps_done, keeps_front, keeps_lacking, keeps_more, keeps_none, keeps_whole}
use Rattle.call_processor.proofs.PartLemmas.{up_to, rest_from, up_to_none, up_to_next_not, up_to_next_its, front_here, front_next, turn_left}
use Rattle.call_processor.proofs.processing.do_events.Goals as goal

pub is_of_processor-requires-clause-event : goal.is_of_processor-requires-clause-event
is_of_processor-requires-clause-event g c = c.event_range-first.ensures.events c.loop-event.event c.loop-event.invariant.from c.loop-event-test.true

pub event_range-first-requires-clause-sound : goal.event_range-first-requires-clause-sound
event_range-first-requires-clause-sound g c = subst IsSound (sym c.requires.may.trace_is) ((g.met.B.Switchboard g.world.𝓛 g.world.𝓜 g.world.𝓡 ((λ s x. x), (λ x. x), (λ x. x), λ x. x)).sound_trace c.args.cx.now.board.now c.args.seat.now c.requires.seated)

pub loop-event-init : goal.loop-event-init
loop-event-init g c =
    let empty : g.K.AnswerSink.holds c.clear.new.self [] = search rules in
    record {
      seated = c.requires.seated;
      keeps = keeps_done _ _ _ _ _ _ _ _ (up_to_none c.args.cx.now.trace.now (Processor c.args.processor) c.event_range-first.result.0) (keeps_none _ _ _ _ _ empty);
      from = search rules;
      tool = c.requires.tool;
    }

pub loop-event-preserved-then-not-is_of_processor : goal.loop-event-preserved-then-not-is_of_processor
loop-event-preserved-then-not-is_of_processor g c =
    let W = Processor c.args.processor in
    let off : is_its c.args.cx.now.trace.now W c.loop-event.event ≡ false = search rules in
    let first = c.event_range-first.result.0 in
    record {
      seated = c.loop-event.invariant.seated;
      keeps = keeps_done g.K.AnswerSink.holds (g.B.Switchboard.board c.args.cx.now.board.now) (λ w. has_no_octets) (up_to c.args.cx.now.trace.now W first c.loop-event.event) (up_to c.args.cx.now.trace.now W first (c.loop-event.event + 1))
          (g.B.Switchboard.known c.args.seat.now) (g.B.Switchboard.known c.loop-event.seat) c.loop-event.sink
          (sym (up_to_next_not c.args.cx.now.trace.now W first c.loop-event.event c.loop-event.invariant.from off)) c.loop-event.invariant.keeps;
      from = search rules;
      tool = c.loop-event.invariant.tool;
    }

pub returns-then-is_set-clause-works : goal.returns-then-is_set-clause-works
returns-then-is_set-clause-works g c =
    let W = Processor c.args.processor in
    let trace = c.args.cx.now.trace.now in
    let part = part_of trace c.args.segment W in
    let first = c.event_range-first.result.0 in
    let end = c.event_range-first.result.1 in
    let event = c.loop-event.event in
    keeps_front g.K.AnswerSink.holds (g.B.Switchboard.board c.args.cx.now.board.now) (λ w. has_no_octets) part (up_to trace W first event) (rest_from trace W event end)
    (g.B.Switchboard.known c.args.seat.now) (g.B.Switchboard.known c.loop-event.seat) c.loop-event.sink
    (front_here trace W part first event end (c.event_range-first.ensures.parts W) c.loop-event.invariant.from c.loop-event-test.true) c.loop-event.invariant.keeps

pub preparse-requires : goal.preparse-requires
preparse-requires g c = record { known = c.event_range-first.ensures.events c.loop-event.event c.loop-event.invariant.from c.loop-event-test.true }

pub do_event-requires-clause-ahead : goal.do_event-requires-clause-ahead
do_event-requires-clause-ahead g c κs within =
    subst (λ (t : Trace). IsReadAt t c.loop-event.event c.preparse.new.self.ahead) c.requires.may.trace_is c.preparse.ensures.ahead

pub do_event-requires-clause-known : goal.do_event-requires-clause-known
do_event-requires-clause-known g c κs within =
    subst (λ (t : Trace). IsEvent t c.loop-event.event) c.requires.may.trace_is (c.event_range-first.ensures.events c.loop-event.event c.loop-event.invariant.from c.loop-event-test.true)

pub do_event-requires-clause-its : goal.do_event-requires-clause-its
do_event-requires-clause-its g c κs within =
    let its : is_its c.args.cx.now.trace.now (Processor c.args.processor) c.loop-event.event ≡ true = search rules in
    subst (λ (t : Trace). is_its t (Processor c.args.processor) c.loop-event.event ≡ true) c.requires.may.trace_is its

pub do_event-requires-clause-turn : goal.do_event-requires-clause-turn
do_event-requires-clause-turn g c κs within =
    let W = Processor c.args.processor in
    let trace = c.args.cx.now.trace.now in
    let part = part_of trace c.args.segment W in
    let its : is_its trace W c.loop-event.event ≡ true = search rules in
    let first = c.event_range-first.result.0 in
    let end = c.event_range-first.result.1 in
    turn_left part (up_to trace W first c.loop-event.event) (rest_from trace W (c.loop-event.event + 1) end) c.loop-event.event
    (g.B.Switchboard.known c.loop-event.seat).left (g.B.Switchboard.known c.args.seat.now).left
    (front_next trace W part first c.loop-event.event end (c.event_range-first.ensures.parts W) c.loop-event.invariant.from c.loop-event-test.true its) c.requires.may.turns c.loop-event.invariant.keeps.going.did.turns

pub returns-in_err-do_event-clause-works : goal.returns-in_err-do_event-clause-works
returns-in_err-do_event-clause-works g c =
    let W = Processor c.args.processor in
    let trace = c.args.cx.now.trace.now in
    let part = part_of trace c.args.segment W in
    let board = g.B.Switchboard.board c.args.cx.now.board.now in
    let its : is_its trace W c.loop-event.event ≡ true = search rules in
    let first = c.event_range-first.result.0 in
    let end = c.event_range-first.result.1 in
    let event = c.loop-event.event in
    let v = g.B.Switchboard.known c.args.seat.now in
    let x = g.B.Switchboard.known c.do_event.new.seat in
    let failed : is_ok c.from_residual.result ≡ false = search rules in
    subst (λ (b : Bool). KeepsWork g.K.AnswerSink.holds board (λ w. has_no_octets) part v c.do_event.new.sink b x) (sym failed)
    (keeps_lacking g.K.AnswerSink.holds board (λ w. has_no_octets) (λ w y answers s each said. said) part (up_to trace W first event) (rest_from trace W (event + 1) end) event
    v (g.B.Switchboard.known c.loop-event.seat) x c.loop-event.sink c.do_event.new.sink
    (front_next trace W part first event end (c.event_range-first.ensures.parts W) c.loop-event.invariant.from c.loop-event-test.true its) c.loop-event.invariant.keeps c.do_event.ensures.handled c.in_err-do_event.ensures.refused)

pub loop-event-preserved : goal.loop-event-preserved
loop-event-preserved g c =
    let W = Processor c.args.processor in
    let trace = c.args.cx.now.trace.now in
    let board = g.B.Switchboard.board c.args.cx.now.board.now in
    let its : is_its trace W c.loop-event.event ≡ true = search rules in
    let first = c.event_range-first.result.0 in
    let event = c.loop-event.event in
    let v = g.B.Switchboard.known c.args.seat.now in
    let x = g.B.Switchboard.known c.do_event.new.seat in
    record {
      seated = c.do_event.ensures.seated;
      keeps = keeps_done g.K.AnswerSink.holds board (λ w. has_no_octets) (up_to trace W first event ++ event ∷ []) (up_to trace W first (event + 1)) v x c.do_event.new.sink
          (sym (up_to_next_its trace W first event c.loop-event.invariant.from its))
          (keeps_more g.K.AnswerSink.holds board (λ w. has_no_octets) (λ w y answers s each said. said) (up_to trace W first event) v (g.B.Switchboard.known c.loop-event.seat) x event c.loop-event.sink c.do_event.new.sink
          c.loop-event.invariant.keeps c.do_event.ensures.handled c.in_ok-do_event.ensures.kept);
      from = search rules;
      tool = c.do_event.ensures.tool;
    }

pub returns-clause-works : goal.returns-clause-works
returns-clause-works g c =
    let W = Processor c.args.processor in
    let first = c.event_range-first.result.0 in
    let over : c.loop-event.event ≡ c.event_range-first.result.1 = search rules in
    let all : up_to c.args.cx.now.trace.now W first c.loop-event.event ≡ part_of c.args.cx.now.trace.now c.args.segment W = ap (up_to c.args.cx.now.trace.now W first) over ∙ sym (c.event_range-first.ensures.parts W) in
    keeps_whole _ _ _ _ _ _ _ (keeps_done _ _ _ _ _ _ _ _ all c.loop-event.invariant.keeps)
