use Rattle.std.proofs.Common.{rules, ◌≡◌, true, false, is_ok, [], ap, sym, ◌∙◌, subst}
use Rattle.exchange_events.specs.declared.trace.Trace.{Trace}
use Rattle.exchange_events.specs.Orders.{Frame_worker, IsEvent}
use Rattle.exchange_events.specs.Sound.{IsSound}
use Rattle.call_processor.specs.Parts.{is_its, part_of}
use Rattle.call_processor.proofs.EventLemmas.{frames_stay}
use Rattle.call_processor.proofs.KeepingLemmas.{keeps_done, keeps_front, keeps_lacking, keeps_more, keeps_none, keeps_nothing, keeps_whole, works_ended}
use Rattle.call_processor.proofs.PartLemmas.{up_to_next_not, up_to_next_its, up_to_none, front_here, front_next, turn_left, up_to}
use Rattle.call_processor.proofs.framing.do_frames.Goals as goal

pub input_of-requires : goal.input_of-requires
input_of-requires g c = record { event = c.event_range-first.ensures.events c.loop-event.event c.loop-event.invariant.from c.loop-event-test.true }

pub returns-in_err-grow-clause-works : goal.returns-in_err-grow-clause-works
returns-in_err-grow-clause-works g c =
    let failed : is_ok c.from_residual.result ≡ false = search rules in
    let empty : g.K.AnswerSink.holds c.clear.new.self [] = search rules in
    works_ended _ _ _ _ _ _ _ _ _ failed (keeps_nothing _ _ _ _ _ _ empty)

pub event_range-first-requires-clause-sound : goal.event_range-first-requires-clause-sound
event_range-first-requires-clause-sound g c = subst IsSound (sym c.requires.may.work.trace_is) ((g.met.B.Switchboard g.world.𝓛 g.world.𝓜 g.world.𝓡 ((λ s x. x), (λ x. x), (λ x. x), λ x. x)).sound_trace c.args.cx.now.board.now c.args.seat.now c.requires.seated)

pub loop-event-init : goal.loop-event-init
loop-event-init g c =
    let empty : g.K.AnswerSink.holds c.clear.new.self [] = search rules in
    record {
      seated = c.requires.seated;
      keeps = keeps_done _ _ _ _ _ _ _ _ (up_to_none c.args.cx.now.trace.now Frame_worker c.event_range-first.result.0) (keeps_none _ _ _ _ _ empty);
      from = search rules;
      ready = c.requires.may.ready;
      lines = search rules;
    }

pub loop-event-preserved-in_default : goal.loop-event-preserved-in_default
loop-event-preserved-in_default g c =
    let off : is_its c.args.cx.now.trace.now Frame_worker c.loop-event.event ≡ false = search rules in
    record {
      seated = c.loop-event.invariant.seated;
      keeps = keeps_done _ _ _ _ _ _ _ _ (sym (up_to_next_not c.args.cx.now.trace.now _ _ _ c.loop-event.invariant.from off)) c.loop-event.invariant.keeps;
      from = search rules;
      ready = c.loop-event.invariant.ready;
      lines = c.loop-event.invariant.lines;
    }

pub returns-then-is_set-clause-works : goal.returns-then-is_set-clause-works
returns-then-is_set-clause-works g c =
    keeps_front _ _ _ _ _ _ _ _ _ (front_here c.args.cx.now.trace.now _ _ _ _ _ (c.event_range-first.ensures.parts Frame_worker) c.loop-event.invariant.from c.loop-event-test.true) c.loop-event.invariant.keeps

pub do_frame-requires-clause-known : goal.do_frame-requires-clause-known
do_frame-requires-clause-known g c κs within =
    subst (λ (t : Trace). IsEvent t c.loop-event.event) c.requires.may.work.trace_is (c.event_range-first.ensures.events c.loop-event.event c.loop-event.invariant.from c.loop-event-test.true)

pub do_frame-requires-clause-turn : goal.do_frame-requires-clause-turn
do_frame-requires-clause-turn g c κs within =
    let its : is_its c.args.cx.now.trace.now Frame_worker c.loop-event.event ≡ true = search rules in
    turn_left _ _ _ _ _ _ (front_next c.args.cx.now.trace.now _ _ _ _ _ (c.event_range-first.ensures.parts Frame_worker) c.loop-event.invariant.from c.loop-event-test.true its) c.requires.may.work.turns c.loop-event.invariant.keeps.going.did.turns

pub returns-in_err-do_frame-clause-works : goal.returns-in_err-do_frame-clause-works
returns-in_err-do_frame-clause-works g c =
    let its : is_its c.args.cx.now.trace.now Frame_worker c.loop-event.event ≡ true = search rules in
    let failed : is_ok c.from_residual-in_err-do_frame.result ≡ false = search rules in
    works_ended _ _ _ _ _ _ _ _ _ failed
    (keeps_lacking _ _ _ (λ a b answers s each said. frames_stay _ _ _ a b answers s each said) _ _ _ _ _ _ _ _ _
    (front_next c.args.cx.now.trace.now _ _ _ _ _ (c.event_range-first.ensures.parts Frame_worker) c.loop-event.invariant.from c.loop-event-test.true its) c.loop-event.invariant.keeps c.do_frame.ensures.handled c.in_err-do_frame.ensures.refused)

pub loop-event-preserved : goal.loop-event-preserved
loop-event-preserved g c =
    let its : is_its c.args.cx.now.trace.now Frame_worker c.loop-event.event ≡ true = search rules in
    record {
      seated = c.do_frame.ensures.seated;
      keeps = keeps_done _ _ _ _ _ _ _ _ (sym (up_to_next_its c.args.cx.now.trace.now _ _ _ c.loop-event.invariant.from its))
          (keeps_more _ _ _ (λ a b answers s each said. frames_stay _ _ _ a b answers s each said) _ _ _ _ _ _ _ c.loop-event.invariant.keeps c.do_frame.ensures.handled c.in_ok-do_frame.ensures.kept);
      from = search rules;
      ready = c.do_frame.ensures.ready;
      lines = c.do_frame.ensures.lines;
    }

pub returns-clause-works : goal.returns-clause-works
returns-clause-works g c =
    let first = c.event_range-first.result.0 in
    let over : c.loop-event.event ≡ c.event_range-first.result.1 = search rules in
    let all : up_to c.args.cx.now.trace.now Frame_worker first c.loop-event.event ≡ part_of c.args.cx.now.trace.now c.args.segment Frame_worker = ap (up_to c.args.cx.now.trace.now Frame_worker first) over ∙ sym (c.event_range-first.ensures.parts Frame_worker) in
    keeps_whole _ _ _ _ _ _ _ (keeps_done _ _ _ _ _ _ _ _ all c.loop-event.invariant.keeps)
