use Rattle.std.proofs.Common.{rules, arith, ◌≡◌, ◌-◌, Bool, false, IsTrue, is_ok, ℕ, ap, subst, sym, ◌∙◌}
use Rattle.std.specs.List.{range_with_len}
use Rattle.exchange_core.specs.Boards.{turns_of}
use Rattle.exchange_events.specs.Sound.{IsSound}
use Rattle.call_processor.specs.Parts.{events_of_segment}
use Rattle.call_processor.proofs.AloneLemmas.{goes_begin, goes_on, goes_same, in_order_ended, in_order_lacking, in_order_none, in_order_whole, octets_stay, still_only, works_lacking, works_none, works_whole}
use Rattle.call_processor.proofs.KeepingLemmas.{works_ended}
use Rattle.call_processor.proofs.PartLemmas.{range_after, range_next, turn_left}
use Rattle.call_processor.proofs.sequential.run_sequential.Goals as goal

pub returns-in_err-grow-clause-works : goal.returns-in_err-grow-clause-works
returns-in_err-grow-clause-works g c =
    let failed : is_ok c.from_residual.result ≡ false = search rules in
    works_ended _ _ _ _ _ _ _ _ _ failed (works_none g.K.AnswerSink.holds _ _ (turns_of (g.B.Switchboard.board c.args.cx.now.board.now)) _ _ _)

pub returns-in_err-grow-clause-in_order : goal.returns-in_err-grow-clause-in_order
returns-in_err-grow-clause-in_order g c =
    let failed : is_ok c.from_residual.result ≡ false = search rules in
    in_order_ended _ _ _ _ _ failed (in_order_none _ _)

pub event_range-first-requires-clause-sound : goal.event_range-first-requires-clause-sound
event_range-first-requires-clause-sound g c = subst IsSound (sym c.requires.trace) ((g.met.B.Switchboard g.world.𝓛 g.world.𝓜 g.world.𝓡 ((λ s x. x), (λ x. x), (λ x. x), λ x. x)).sound_trace c.args.cx.now.board.now c.args.seat.now c.requires.seated)

pub loop-event-init : goal.loop-event-init
loop-event-init g c = record {
  seated = c.requires.seated;
  goes = goes_begin _ _ _ _ _ _ c.event_range-first.result.0;
  from = search rules;
  context = search rules;
  ready = c.requires.ready;
  lines = search rules;
}

pub do_next-requires-clause-known : goal.do_next-requires-clause-known
do_next-requires-clause-known g c κs within = c.event_range-first.ensures.events c.loop-event.event c.loop-event.invariant.from c.loop-event-test.true

pub do_next-requires-clause-turn : goal.do_next-requires-clause-turn
do_next-requires-clause-turn g c κs within =
    turn_left _ _ _ _ _ _ (range_after _ _ _ _ c.event_range-first.ensures.all c.loop-event.invariant.from c.loop-event-test.true) c.requires.turns c.loop-event.invariant.goes.keeps.going.did.turns

pub do_next-requires-clause-some : goal.do_next-requires-clause-some
do_next-requires-clause-some g c κs within =
    let sound : IsSound c.args.cx.now.trace.now = subst IsSound (sym c.requires.trace) ((g.met.B.Switchboard g.world.𝓛 g.world.𝓜 g.world.𝓡 ((λ s x. x), (λ x. x), (λ x. x), λ x. x)).sound_trace c.args.cx.now.board.now c.args.seat.now c.requires.seated) in
    let some = sound.processors.0 in
    omega (arith, some)

pub do_next-requires-clause-only : goal.do_next-requires-clause-only
do_next-requires-clause-only g c κs within = still_only _ _ _ c.loop-event.invariant.goes.keeps.going.did c.requires.only

pub do_next-requires-clause-baton : goal.do_next-requires-clause-baton
do_next-requires-clause-baton g c κs within = subst (λ (b : Bool). IsTrue b) (sym c.loop-event.invariant.goes.keeps.going.did.baton) c.requires.baton

pub returns-in_err-do_next-clause-settled : goal.returns-in_err-do_next-clause-settled
returns-in_err-do_next-clause-settled g c = λ settled. c.do_next.ensures.next.settled

pub returns-in_err-do_next-clause-in_order : goal.returns-in_err-do_next-clause-in_order
returns-in_err-do_next-clause-in_order g c =
    let failed : is_ok c.from_residual-in_err-do_next.result ≡ false = search rules in
    in_order_ended _ _ _ _ _ failed
    (in_order_lacking _ _ _ _ _ _ _ _ _ _ _ _ _ (range_after _ _ _ _ c.event_range-first.ensures.all c.loop-event.invariant.from c.loop-event-test.true) c.loop-event.invariant.goes c.do_next.ensures.handled c.do_next.ensures.next)

pub returns-in_err-do_next-clause-works : goal.returns-in_err-do_next-clause-works
returns-in_err-do_next-clause-works g c =
    let failed : is_ok c.from_residual-in_err-do_next.result ≡ false = search rules in
    works_ended _ _ _ _ _ _ _ _ _ failed
    (works_lacking _ _ _ _ _ _ (octets_stay _ _ _) _ _ _ _ _ _ _ _ (range_after _ _ _ _ c.event_range-first.ensures.all c.loop-event.invariant.from c.loop-event-test.true) c.loop-event.invariant.goes c.do_next.ensures.handled
    c.in_err-do_next.ensures.refused)

pub loop-event-preserved : goal.loop-event-preserved
loop-event-preserved g c = record {
  seated = c.do_next.ensures.seated;
  goes = goes_same _ _ _ _ _ _ _ _ _ _ (sym (range_next c.event_range-first.result.0 c.loop-event.event c.loop-event.invariant.from))
      (goes_on _ _ _ _ _ _ (octets_stay _ _ _) _ _ _ _ _ _ c.loop-event.invariant.goes c.do_next.ensures.handled c.do_next.ensures.next c.in_ok-do_next.ensures.kept);
  from = search rules;
  context = c.do_next.ensures.context;
  ready = c.do_next.ensures.ready;
  lines = c.do_next.ensures.lines;
}

pub returns-clause-works : goal.returns-clause-works
returns-clause-works g c =
    let first = c.event_range-first.result.0 in
    let over : c.loop-event.event ≡ c.event_range-first.result.1 = search rules in
    let all : range_with_len first (c.loop-event.event - first) ≡ events_of_segment c.args.cx.now.trace.now c.args.segment = ap (λ (n : ℕ). range_with_len first (n - first)) over ∙ sym c.event_range-first.ensures.all in
    works_whole _ _ _ _ _ _ _ _ _ (goes_same _ _ _ _ _ _ _ _ _ _ all c.loop-event.invariant.goes)

pub returns-clause-in_order : goal.returns-clause-in_order
returns-clause-in_order g c =
    let first = c.event_range-first.result.0 in
    let over : c.loop-event.event ≡ c.event_range-first.result.1 = search rules in
    let all : range_with_len first (c.loop-event.event - first) ≡ events_of_segment c.args.cx.now.trace.now c.args.segment = ap (λ (n : ℕ). range_with_len first (n - first)) over ∙ sym c.event_range-first.ensures.all in
    in_order_whole _ _ _ _ _ _ _ _ _ (goes_same _ _ _ _ _ _ _ _ _ _ all c.loop-event.invariant.goes)

pub returns-clause-settled : goal.returns-clause-settled
returns-clause-settled g c = c.loop-event.invariant.goes.settled
