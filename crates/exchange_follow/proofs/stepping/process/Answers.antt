use Rattle.std.proofs.Common.{List, ap, sym, subst, ◌∙◌}
use Rattle.exchange_events.specs.declared.record.CallRecord.{CallRecord}
use Rattle.exchange_events.specs.Kept.{kept_of}
use Rattle.call_profile.specs.CallsTold.{calls_kept}
use Rattle.call_profile.specs.Step.{MovesAtMost}
use Rattle.lone_exchange.specs.At.{IsGiven}
use Rattle.linked_exchange.specs.Telling.{AreTold, AreToldFront}
use Rattle.linked_exchange.proofs.SteppingLemmas.{on_err, on_ok, told_front}
use Rattle.exchange_follow.proofs.stepping.process.Goals as goal

pub returns-in_err-tell-clause-told_front : goal.returns-in_err-tell-clause-told_front
returns-in_err-tell-clause-told_front g c s w given at =
    let here : IsGiven c.plan.result.now c.tones.result.now c.timers-timers.result s = record { plan_is = given.plan_is ∙ sym c.plan.ensures; tones_are = given.tones_are ∙ sym c.tones.ensures; timers_are = given.timers_are ∙ sym c.timers-timers.ensures } in
    let records = c.records.ensures ∙ ap (λ r. calls_kept (kept_of r)) (c.happen-response.ensures.reply s w here at) in
    on_err c.from_residual.result (subst (λ (calls : List CallRecord). AreToldFront (λ m. (goal.Meter-dyn g (m.vtable, m.value)).stands m.value) (λ m. (goal.Meter-dyn g (m.vtable, m.value)).text m.value)
    c.args.meters.now.items c.tell.new.meters.items calls) records c.in_err-tell.ensures.front)

pub returns-clause-line : goal.returns-clause-line
returns-clause-line g c s w given at =
    let here : IsGiven c.plan.result.now c.tones.result.now c.timers-timers.result s = record { plan_is = given.plan_is ∙ sym c.plan.ensures; tones_are = given.tones_are ∙ sym c.tones.ensures; timers_are = given.timers_are ∙ sym c.timers-timers.ensures } in
    rw (sym c.event_count.ensures) (c.append_line.ensures.line s w c.args.event.now (c.happen-response.ensures.reply s w here at) (c.happen-response.ensures.played s w here at))

pub returns-clause-told : goal.returns-clause-told
returns-clause-told g c s w given at =
    let here : IsGiven c.plan.result.now c.tones.result.now c.timers-timers.result s = record { plan_is = given.plan_is ∙ sym c.plan.ensures; tones_are = given.tones_are ∙ sym c.tones.ensures; timers_are = given.timers_are ∙ sym c.timers-timers.ensures } in
    let records = c.records.ensures ∙ ap (λ r. calls_kept (kept_of r)) (c.happen-response.ensures.reply s w here at) in
    on_ok c.append_line.result (subst (λ (calls : List CallRecord). AreTold (λ m. (goal.Meter-dyn g (m.vtable, m.value)).stands m.value) (λ m. (goal.Meter-dyn g (m.vtable, m.value)).text m.value)
    c.args.meters.now.items c.tell.new.meters.items calls) records c.in_ok-tell.ensures.told)

pub returns-clause-told_front : goal.returns-clause-told_front
returns-clause-told_front g c s w given at =
    let here : IsGiven c.plan.result.now c.tones.result.now c.timers-timers.result s = record { plan_is = given.plan_is ∙ sym c.plan.ensures; tones_are = given.tones_are ∙ sym c.tones.ensures; timers_are = given.timers_are ∙ sym c.timers-timers.ensures } in
    let records = c.records.ensures ∙ ap (λ r. calls_kept (kept_of r)) (c.happen-response.ensures.reply s w here at) in
    on_err c.append_line.result (told_front (λ m. (goal.Meter-dyn g (m.vtable, m.value)).stands m.value) (λ m. (goal.Meter-dyn g (m.vtable, m.value)).text m.value) _ _ _
    (subst (λ (calls : List CallRecord). AreTold (λ m. (goal.Meter-dyn g (m.vtable, m.value)).stands m.value) (λ m. (goal.Meter-dyn g (m.vtable, m.value)).text m.value)
    c.args.meters.now.items c.tell.new.meters.items calls) records c.in_ok-tell.ensures.told))

pub returns-clause-few : goal.returns-clause-few
returns-clause-few g c s w given at =
    let here : IsGiven c.plan.result.now c.tones.result.now c.timers-timers.result s = record { plan_is = given.plan_is ∙ sym c.plan.ensures; tones_are = given.tones_are ∙ sym c.tones.ensures; timers_are = given.timers_are ∙ sym c.timers-timers.ensures } in
    subst (MovesAtMost c.args.exchange.now.control.map.bound) (c.happen-response.ensures.reply s w here at) c.happen-response.ensures.few
