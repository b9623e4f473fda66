use Rattle.std.proofs.Common.{◌≡◌, ◌++◌, ap, subst, ◌∙◌}
use Rattle.std.proofs.Transfers.{starts_with_trans}
use Rattle.exchange_events.specs.declared.outbox.Response.TheVariants as response
use Rattle.exchange_events.specs.Responses.{reply_of}
use Rattle.call_profile.specs.Step.{MovesAtMost}
use Rattle.linked_exchange.specs.Steps.{Turns, derived, next_joint, reply_to}
use Rattle.linked_exchange.specs.LinkedLines.{input_of, text_of}
use Rattle.linked_exchange.specs.InTurn.{joint_said, setting_in_turn}
use Rattle.linked_exchange.proofs.LinkedEvents.{frame_input, other_input}
use Rattle.linked_exchange.proofs.LinkedSteppingLemmas.{at_ready, front_both, front_first, front_whole, happened_frame, happened_other, has_settings, linked_room, played_frame, settings_are, settings_of, step_records, told_all, told_first, turn_room}
use Rattle.linked_exchange.proofs.SteppingLemmas.{on_err, on_err_then, on_ok_then}
use Rattle.linked_exchange.proofs.Tellings.{none_front}
use Rattle.exchange_follow.proofs.linked_stepping.process_linked.Goals as goal

pub put_step-requires-clause-room : goal.put_step-requires-clause-room
put_step-requires-clause-room g c κs within =
    let (told, z, due) = c.requires.due in
    linked_room g.C.Carrier.carries g.C.Carrier.next g.C.Carrier.sizes g.P.Fabric.slots g.P.Fabric.moves told z c.args.heading.now c.args.exchange.now c.args.event.now due

pub returns-in_err-response-clause-front : goal.returns-in_err-response-clause-front
returns-in_err-response-clause-front g c told z due = on_err c.from_residual.result (none_front (λ m. (goal.Meter-dyn g (m.vtable, m.value)).stands m.value) (λ m. (goal.Meter-dyn g (m.vtable, m.value)).text m.value) c.args.meters.now.items _)

pub returns-in_err-tell-clause-front : goal.returns-in_err-tell-clause-front
returns-in_err-tell-clause-front g c told z due =
    let is = settings_are c.args.heading.now c.plain-plain.result.now c.plan.result.now c.tones.result.now c.timers-timers.result c.link_timers-link_timers.result c.plain-plain.ensures c.plan.ensures c.tones.ensures c.timers-timers.ensures c.link_timers-link_timers.ensures in
    let s = setting_in_turn g.P.Fabric.slots z told in
    let j = joint_said g.P.Fabric.slots z told in
    let has = has_settings g.P.Fabric.slots told z c.args.heading.now (settings_of c.plan.result.now c.tones.result.now c.timers-timers.result c.link_timers-link_timers.result) due.given is in
    let at = at_ready g.C.Carrier.carries g.C.Carrier.next g.C.Carrier.sizes g.P.Fabric.slots g.P.Fabric.moves told z c.args.heading.now c.args.exchange.now c.args.event.now due in
    let reply = c.in_ok-response.ensures.reply s j has at in
    let records = step_records s c.link_timers-link_timers.result j (input_of c.args.event.now) c.in_ok-response.response c.put_step.new.exchange.exchange.context.out c.records.result.now c.records.ensures reply in
    on_err c.from_residual-in_err-tell.result (front_first g.C.Carrier.plays g.C.Carrier.carries g.C.Carrier.next g.C.Carrier.sizes g.P.Fabric.slots g.P.Fabric.moves (λ m. (goal.Meter-dyn g (m.vtable, m.value)).stands m.value) (λ m. (goal.Meter-dyn g (m.vtable, m.value)).text m.value) told z c.args.heading.now c.args.exchange.now c.args.event.now due (settings_of c.plan.result.now c.tones.result.now c.timers-timers.result c.link_timers-link_timers.result) is c.args.meters.now.items c.tell.new.meters.items c.records.result.now records c.in_err-tell.ensures.front)

pub returns-in_default : goal.returns-in_default
returns-in_default g c = record {
  happened = λ told z due.
      let is = settings_are c.args.heading.now c.plain-plain.result.now c.plan.result.now c.tones.result.now c.timers-timers.result c.link_timers-link_timers.result c.plain-plain.ensures c.plan.ensures c.tones.ensures c.timers-timers.ensures c.link_timers-link_timers.ensures in
      let s = setting_in_turn g.P.Fabric.slots z told in
      let j = joint_said g.P.Fabric.slots z told in
      let has = has_settings g.P.Fabric.slots told z c.args.heading.now (settings_of c.plan.result.now c.tones.result.now c.timers-timers.result c.link_timers-link_timers.result) due.given is in
      let at = at_ready g.C.Carrier.carries g.C.Carrier.next g.C.Carrier.sizes g.P.Fabric.slots g.P.Fabric.moves told z c.args.heading.now c.args.exchange.now c.args.event.now due in
      let reply = c.in_ok-response.ensures.reply s j has at in
      let records = step_records s c.link_timers-link_timers.result j (input_of c.args.event.now) c.in_ok-response.response c.put_step.new.exchange.exchange.context.out c.records.result.now c.records.ensures reply in
      let other = other_input s c.link_timers-link_timers.result j c.args.event.now c.in_ok-response.response c.put_step.new.exchange.exchange.context.out c.in_default.not-Frame reply in
      happened_other g.C.Carrier.plays g.C.Carrier.carries g.C.Carrier.next g.C.Carrier.sizes g.P.Fabric.slots g.P.Fabric.moves (λ m. (goal.Meter-dyn g (m.vtable, m.value)).stands m.value) (λ m. (goal.Meter-dyn g (m.vtable, m.value)).text m.value) told z c.args.heading.now c.args.exchange.now c.args.event.now due (settings_of c.plan.result.now c.tones.result.now c.timers-timers.result c.link_timers-link_timers.result) is other c.put_step.new.exchange c.args.meters.now.items c.tell.new.meters.items c.args.out.now.items c.put_step.new.out.items
      (c.put_step.ensures.step s j has at) c.put_step.ensures.bound (subst (MovesAtMost c.args.exchange.now.exchange.control.map.bound) reply c.in_ok-response.ensures.few)
      (subst (λ n. c.put_step.new.out.items ≡ c.args.out.now.items ++ text_of s c.link_timers-link_timers.result j n (input_of c.args.event.now)) (c.event_count.ensures ∙ ap (λ k. k.events) c.plain-plain.ensures) (c.in_ok-response.ensures.line s j has at))
      (told_first g.C.Carrier.plays g.C.Carrier.carries g.C.Carrier.next g.C.Carrier.sizes g.P.Fabric.slots g.P.Fabric.moves (λ m. (goal.Meter-dyn g (m.vtable, m.value)).stands m.value) (λ m. (goal.Meter-dyn g (m.vtable, m.value)).text m.value) told z c.args.heading.now c.args.exchange.now c.args.event.now due (settings_of c.plan.result.now c.tones.result.now c.timers-timers.result c.link_timers-link_timers.result) is c.args.meters.now.items c.tell.new.meters.items c.records.result.now records c.in_ok-tell.ensures.told);
  front = λ told z due. tt;
  prefix = c.put_step.ensures.front;
}

pub put_turn_step-requires-clause-at : goal.put_turn_step-requires-clause-at
put_turn_step-requires-clause-at g c κs within =
    let (told, z, due) = c.requires.due in
    let is = settings_are c.args.heading.now c.plain-plain.result.now c.plan.result.now c.tones.result.now c.timers-timers.result c.link_timers-link_timers.result c.plain-plain.ensures c.plan.ensures c.tones.ensures c.timers-timers.ensures c.link_timers-link_timers.ensures in
    let s = setting_in_turn g.P.Fabric.slots z told in
    let j = joint_said g.P.Fabric.slots z told in
    let has = has_settings g.P.Fabric.slots told z c.args.heading.now (settings_of c.plan.result.now c.tones.result.now c.timers-timers.result c.link_timers-link_timers.result) due.given is in
    let at = at_ready g.C.Carrier.carries g.C.Carrier.next g.C.Carrier.sizes g.P.Fabric.slots g.P.Fabric.moves told z c.args.heading.now c.args.exchange.now c.args.event.now due in
    (s, next_joint s c.link_timers-link_timers.result j (input_of c.args.event.now), has, c.put_step.ensures.step s j has at)

pub put_turn_step-requires-clause-room : goal.put_turn_step-requires-clause-room
put_turn_step-requires-clause-room g c κs within =
    let (told, z, due) = c.requires.due in
    let is = settings_are c.args.heading.now c.plain-plain.result.now c.plan.result.now c.tones.result.now c.timers-timers.result c.link_timers-link_timers.result c.plain-plain.ensures c.plan.ensures c.tones.ensures c.timers-timers.ensures c.link_timers-link_timers.ensures in
    let s = setting_in_turn g.P.Fabric.slots z told in
    let j = joint_said g.P.Fabric.slots z told in
    let has = has_settings g.P.Fabric.slots told z c.args.heading.now (settings_of c.plan.result.now c.tones.result.now c.timers-timers.result c.link_timers-link_timers.result) due.given is in
    let at = at_ready g.C.Carrier.carries g.C.Carrier.next g.C.Carrier.sizes g.P.Fabric.slots g.P.Fabric.moves told z c.args.heading.now c.args.exchange.now c.args.event.now due in
    turn_room g.C.Carrier.carries g.C.Carrier.next g.C.Carrier.sizes g.P.Fabric.slots g.P.Fabric.moves told z c.args.heading.now c.args.exchange.now c.args.event.now due c.link_timers-link_timers.result c.put_step.new.exchange (c.put_step.ensures.step s j has at)

pub returns-in_err-put_turn_step-clause-front : goal.returns-in_err-put_turn_step-clause-front
returns-in_err-put_turn_step-clause-front g c told z due =
    let is = settings_are c.args.heading.now c.plain-plain.result.now c.plan.result.now c.tones.result.now c.timers-timers.result c.link_timers-link_timers.result c.plain-plain.ensures c.plan.ensures c.tones.ensures c.timers-timers.ensures c.link_timers-link_timers.ensures in
    let s = setting_in_turn g.P.Fabric.slots z told in
    let j = joint_said g.P.Fabric.slots z told in
    let has = has_settings g.P.Fabric.slots told z c.args.heading.now (settings_of c.plan.result.now c.tones.result.now c.timers-timers.result c.link_timers-link_timers.result) due.given is in
    let at = at_ready g.C.Carrier.carries g.C.Carrier.next g.C.Carrier.sizes g.P.Fabric.slots g.P.Fabric.moves told z c.args.heading.now c.args.exchange.now c.args.event.now due in
    let reply = c.in_ok-response.ensures.reply s j has at in
    let records = step_records s c.link_timers-link_timers.result j (input_of c.args.event.now) c.in_ok-response.response c.put_step.new.exchange.exchange.context.out c.records.result.now c.records.ensures reply in
    on_err c.from_residual-in_err-put_turn_step.result (front_whole g.C.Carrier.plays g.C.Carrier.carries g.C.Carrier.next g.C.Carrier.sizes g.P.Fabric.slots g.P.Fabric.moves (λ m. (goal.Meter-dyn g (m.vtable, m.value)).stands m.value) (λ m. (goal.Meter-dyn g (m.vtable, m.value)).text m.value) told z c.args.heading.now c.args.exchange.now c.args.event.now due (settings_of c.plan.result.now c.tones.result.now c.timers-timers.result c.link_timers-link_timers.result) is c.args.meters.now.items c.tell.new.meters.items c.records.result.now records c.in_ok-tell.ensures.told)

pub returns-clause-happened : goal.returns-clause-happened
returns-clause-happened g c told z due =
    let is = settings_are c.args.heading.now c.plain-plain.result.now c.plan.result.now c.tones.result.now c.timers-timers.result c.link_timers-link_timers.result c.plain-plain.ensures c.plan.ensures c.tones.ensures c.timers-timers.ensures c.link_timers-link_timers.ensures in
    let s = setting_in_turn g.P.Fabric.slots z told in
    let j = joint_said g.P.Fabric.slots z told in
    let has = has_settings g.P.Fabric.slots told z c.args.heading.now (settings_of c.plan.result.now c.tones.result.now c.timers-timers.result c.link_timers-link_timers.result) due.given is in
    let at = at_ready g.C.Carrier.carries g.C.Carrier.next g.C.Carrier.sizes g.P.Fabric.slots g.P.Fabric.moves told z c.args.heading.now c.args.exchange.now c.args.event.now due in
    let reply = c.in_ok-response.ensures.reply s j has at in
    let records = step_records s c.link_timers-link_timers.result j (input_of c.args.event.now) c.in_ok-response.response c.put_step.new.exchange.exchange.context.out c.records.result.now c.records.ensures reply in
    let found = frame_input s c.link_timers-link_timers.result j c.args.event.now c.in-Frame.field-0 c.put_step.new.exchange.exchange.context.out (subst (λ r. reply_of r c.put_step.new.exchange.exchange.context.out ≡ reply_to s j.world (derived c.link_timers-link_timers.result j (input_of c.args.event.now))) c.in-Frame.is reply) in
    let later = next_joint s c.link_timers-link_timers.result j (input_of c.args.event.now) in
    let mid = c.put_step.ensures.step s j has at in
    let turned = c.put_turn_step.ensures.reply s later has mid in
    let more = step_records s c.link_timers-link_timers.result later Turns response.Sent c.put_turn_step.new.exchange.exchange.context.out c.records-2.result.now c.records-2.ensures turned in
    on_ok_then c.tell-2.result c.tell-2.ensures.told (λ noted.
    happened_frame g.C.Carrier.plays g.C.Carrier.carries g.C.Carrier.next g.C.Carrier.sizes g.P.Fabric.slots g.P.Fabric.moves (λ m. (goal.Meter-dyn g (m.vtable, m.value)).stands m.value) (λ m. (goal.Meter-dyn g (m.vtable, m.value)).text m.value) told z c.args.heading.now c.args.exchange.now c.args.event.now due (settings_of c.plan.result.now c.tones.result.now c.timers-timers.result c.link_timers-link_timers.result) is found.0 found.1 c.put_step.new.exchange c.put_turn_step.new.exchange c.args.meters.now.items c.tell-2.new.meters.items c.args.out.now.items c.put_step.new.out.items c.put_turn_step.new.out.items
    mid (c.put_turn_step.ensures.step s later has mid) c.put_step.ensures.bound c.put_turn_step.ensures.bound
    (subst (MovesAtMost c.args.exchange.now.exchange.control.map.bound) reply c.in_ok-response.ensures.few) (subst (MovesAtMost c.put_step.new.exchange.exchange.control.map.bound) turned c.put_turn_step.ensures.few)
    (subst (λ n. c.put_step.new.out.items ≡ c.args.out.now.items ++ text_of s c.link_timers-link_timers.result j n (input_of c.args.event.now)) (c.event_count.ensures ∙ ap (λ k. k.events) c.plain-plain.ensures) (c.in_ok-response.ensures.line s j has at))
    (played_frame g.C.Carrier.plays g.C.Carrier.carries g.C.Carrier.next g.C.Carrier.sizes (settings_of c.plan.result.now c.tones.result.now c.timers-timers.result c.link_timers-link_timers.result) (input_of c.args.event.now) found.0 c.args.exchange.now c.put_step.new.exchange s j found.1 has at c.put_step.ensures.played) c.put_turn_step.ensures.octets (c.in_ok-put_turn_step.ensures.rest s later has mid)
    (told_all g.C.Carrier.plays g.C.Carrier.carries g.C.Carrier.next g.C.Carrier.sizes g.P.Fabric.slots g.P.Fabric.moves (λ m. (goal.Meter-dyn g (m.vtable, m.value)).stands m.value) (λ m. (goal.Meter-dyn g (m.vtable, m.value)).text m.value) told z c.args.heading.now c.args.exchange.now c.args.event.now due (settings_of c.plan.result.now c.tones.result.now c.timers-timers.result c.link_timers-link_timers.result) is found.0 found.1 c.args.meters.now.items c.tell.new.meters.items c.tell-2.new.meters.items c.records.result.now c.records-2.result.now records more c.in_ok-tell.ensures.told noted))

pub returns-clause-front : goal.returns-clause-front
returns-clause-front g c told z due =
    let is = settings_are c.args.heading.now c.plain-plain.result.now c.plan.result.now c.tones.result.now c.timers-timers.result c.link_timers-link_timers.result c.plain-plain.ensures c.plan.ensures c.tones.ensures c.timers-timers.ensures c.link_timers-link_timers.ensures in
    let s = setting_in_turn g.P.Fabric.slots z told in
    let j = joint_said g.P.Fabric.slots z told in
    let has = has_settings g.P.Fabric.slots told z c.args.heading.now (settings_of c.plan.result.now c.tones.result.now c.timers-timers.result c.link_timers-link_timers.result) due.given is in
    let at = at_ready g.C.Carrier.carries g.C.Carrier.next g.C.Carrier.sizes g.P.Fabric.slots g.P.Fabric.moves told z c.args.heading.now c.args.exchange.now c.args.event.now due in
    let reply = c.in_ok-response.ensures.reply s j has at in
    let records = step_records s c.link_timers-link_timers.result j (input_of c.args.event.now) c.in_ok-response.response c.put_step.new.exchange.exchange.context.out c.records.result.now c.records.ensures reply in
    let found = frame_input s c.link_timers-link_timers.result j c.args.event.now c.in-Frame.field-0 c.put_step.new.exchange.exchange.context.out (subst (λ r. reply_of r c.put_step.new.exchange.exchange.context.out ≡ reply_to s j.world (derived c.link_timers-link_timers.result j (input_of c.args.event.now))) c.in-Frame.is reply) in
    let later = next_joint s c.link_timers-link_timers.result j (input_of c.args.event.now) in
    let mid = c.put_step.ensures.step s j has at in
    let turned = c.put_turn_step.ensures.reply s later has mid in
    let more = step_records s c.link_timers-link_timers.result later Turns response.Sent c.put_turn_step.new.exchange.exchange.context.out c.records-2.result.now c.records-2.ensures turned in
    on_err_then c.tell-2.result c.tell-2.ensures.front (λ front.
    front_both g.C.Carrier.plays g.C.Carrier.carries g.C.Carrier.next g.C.Carrier.sizes g.P.Fabric.slots g.P.Fabric.moves (λ m. (goal.Meter-dyn g (m.vtable, m.value)).stands m.value) (λ m. (goal.Meter-dyn g (m.vtable, m.value)).text m.value) told z c.args.heading.now c.args.exchange.now c.args.event.now due (settings_of c.plan.result.now c.tones.result.now c.timers-timers.result c.link_timers-link_timers.result) is found.0 found.1 c.args.meters.now.items c.tell.new.meters.items c.tell-2.new.meters.items c.records.result.now c.records-2.result.now records more c.in_ok-tell.ensures.told front)

pub returns-in_err-put_turn_step-clause-prefix : goal.returns-in_err-put_turn_step-clause-prefix
returns-in_err-put_turn_step-clause-prefix g c = starts_with_trans _ _ _ c.put_turn_step.ensures.front c.put_step.ensures.front

pub returns-clause-prefix : goal.returns-clause-prefix
returns-clause-prefix g c = starts_with_trans _ _ _ c.put_turn_step.ensures.front c.put_step.ensures.front
