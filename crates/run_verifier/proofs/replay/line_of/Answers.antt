use Rattle.std.proofs.Common.{◌≡◌, ap, refl}
use Rattle.exchange_events.specs.Orders.{event_at}
use Rattle.exchange_events.specs.Sound.{setting_of}
use Rattle.exchange_core.specs.Working.{world_after}
use Rattle.exchange_core.proofs.StepLemmas.{one_number}
use Rattle.run_verifier.specs.Replaying.{line_due}
use Rattle.run_verifier.proofs.LineLemmas.{appended, done_after, event_fits, frames_few}
use Rattle.run_verifier.proofs.replay.line_of.Goals as goal

pub happen-response-requires-clause-at : goal.happen-response-requires-clause-at
happen-response-requires-clause-at g c lifetimes outlive =
    let (slots, order, done, room) = c.requires.some in
    (setting_of slots c.args.trace.now, world_after slots c.args.trace.now order, record { plan_is = refl; tones_are = refl; timers_are = refl }, done)

pub happen-response-requires-clause-fits : goal.happen-response-requires-clause-fits
happen-response-requires-clause-fits g c lifetimes outlive =
    let (slots, order, done, room) = c.requires.some in
    event_fits slots c.args.trace.now order c.args.exchange.now done c.args.event c.event-happened.result.now c.requires.sound c.event-happened.ensures

pub happen-response-requires-clause-room : goal.happen-response-requires-clause-room
happen-response-requires-clause-room g c lifetimes outlive =
    let (slots, order, done, room) = c.requires.some in
    frames_few slots c.args.trace.now order c.args.exchange.now done c.requires.sound room

pub returns-clause-done : goal.returns-clause-done
returns-clause-done g c slots order done =
    let s = setting_of slots c.args.trace.now in
    let w = world_after slots c.args.trace.now order in
    done_after slots c.args.trace.now order c.args.event c.event-happened.result.now c.happen-response.new.self c.event-happened.ensures
    (c.happen-response.ensures.world s w (record { plan_is = refl; tones_are = refl; timers_are = refl }) done)

pub returns-clause-line : goal.returns-clause-line
returns-clause-line g c slots order e done number =
    let trace = c.args.trace.now in
    let n = c.args.event in
    let f = c.event-happened.result.now in
    let s = setting_of slots trace in
    let w = world_after slots trace order in
    let h = c.happen-response.ensures in
    let same : f ≡ e = one_number (event_at trace.events n) f e c.event-happened.ensures number in
    appended c.append_line.result c.append_line.new.text.items c.clear.new.self.items (line_due slots trace order n f) (line_due slots trace order n e) c.clear.ensures.items
    (ap (line_due slots trace order n) same)
    (c.append_line.ensures.line s w f (h.reply s w (record { plan_is = refl; tones_are = refl; timers_are = refl }) done) (h.played s w (record { plan_is = refl; tones_are = refl; timers_are = refl }) done))
