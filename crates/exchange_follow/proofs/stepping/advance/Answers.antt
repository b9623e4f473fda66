use Rattle.std.proofs.Common.{◌∙◌}
use Rattle.exchange_follow.specs.Following.{setting_said, world_said}
use Rattle.linked_exchange.proofs.SteppingLemmas.{at_driver, driver_bound, event_fits, few_more, frames_few, given_here, happened_ok, no_driver, on_err}
use Rattle.linked_exchange.proofs.Tellings.{none_front}
use Rattle.exchange_follow.proofs.stepping.advance.Goals as goal

pub returns-in_err-ready-clause-front : goal.returns-in_err-ready-clause-front
returns-in_err-ready-clause-front g c told z due =
    on_err c.from_residual.result (none_front (λ m. (goal.Meter-dyn g (m.vtable, m.value)).stands m.value) (λ m. (goal.Meter-dyn g (m.vtable, m.value)).text m.value) c.args.meters.now.items _)

pub unreachable-requires : goal.unreachable-requires
unreachable-requires g c =
    let (told, z, due) = c.requires.due in
    no_driver g.C.Carrier.carries g.C.Carrier.next g.C.Carrier.sizes g.P.Fabric.slots g.P.Fabric.moves told z c.args.heading.now c.ready.new.exchange (c.in_ok-ready.ensures.running told z due.heard) c.in_default.is

pub process-requires-clause-at : goal.process-requires-clause-at
process-requires-clause-at g c κs within =
    let (told, z, due) = c.requires.due in
    (setting_said g.P.Fabric.slots z told, world_said g.P.Fabric.slots z told, given_here g.C.Carrier.carries g.C.Carrier.next g.C.Carrier.sizes g.P.Fabric.slots g.P.Fabric.moves told z c.args.heading.now c.args.exchange.now due.heard, at_driver g.C.Carrier.carries g.C.Carrier.next g.C.Carrier.sizes g.P.Fabric.slots g.P.Fabric.moves told z c.args.heading.now c.ready.new.exchange c.in-Some.driver (c.in_ok-ready.ensures.running told z due.heard) c.in-Some.is)

pub process-requires-clause-fits : goal.process-requires-clause-fits
process-requires-clause-fits g c κs within =
    let (told, z, due) = c.requires.due in
    event_fits g.C.Carrier.carries g.C.Carrier.next g.C.Carrier.sizes g.P.Fabric.slots g.P.Fabric.moves told z c.args.heading.now c.args.exchange.now c.args.event.now due c.in-Some.driver (at_driver g.C.Carrier.carries g.C.Carrier.next g.C.Carrier.sizes g.P.Fabric.slots g.P.Fabric.moves told z c.args.heading.now c.ready.new.exchange c.in-Some.driver (c.in_ok-ready.ensures.running told z due.heard) c.in-Some.is)

pub process-requires-clause-room : goal.process-requires-clause-room
process-requires-clause-room g c κs within =
    let (told, z, due) = c.requires.due in
    frames_few g.C.Carrier.carries g.C.Carrier.next g.C.Carrier.sizes g.P.Fabric.slots g.P.Fabric.moves told z c.args.heading.now c.args.exchange.now c.args.event.now due c.in-Some.driver (at_driver g.C.Carrier.carries g.C.Carrier.next g.C.Carrier.sizes g.P.Fabric.slots g.P.Fabric.moves told z c.args.heading.now c.ready.new.exchange c.in-Some.driver (c.in_ok-ready.ensures.running told z due.heard) c.in-Some.is)

pub returns-clause-happened : goal.returns-clause-happened
returns-clause-happened g c told z due =
    let s = setting_said g.P.Fabric.slots z told in
    let w = world_said g.P.Fabric.slots z told in
    let given = given_here g.C.Carrier.carries g.C.Carrier.next g.C.Carrier.sizes g.P.Fabric.slots g.P.Fabric.moves told z c.args.heading.now c.args.exchange.now due.heard in
    let running = c.in_ok-ready.ensures.running told z due.heard in
    let at = at_driver g.C.Carrier.carries g.C.Carrier.next g.C.Carrier.sizes g.P.Fabric.slots g.P.Fabric.moves told z c.args.heading.now c.ready.new.exchange c.in-Some.driver running c.in-Some.is in
    let is = driver_bound g.C.Carrier.carries g.C.Carrier.next g.C.Carrier.sizes g.P.Fabric.slots g.P.Fabric.moves told z c.args.heading.now c.ready.new.exchange c.in-Some.driver running c.in-Some.is in
    happened_ok g.C.Carrier.carries g.C.Carrier.next g.C.Carrier.sizes g.P.Fabric.slots g.P.Fabric.moves told z c.args.heading.now g.C.Carrier.plays (λ m. (goal.Meter-dyn g (m.vtable, m.value)).stands m.value) (λ m. (goal.Meter-dyn g (m.vtable, m.value)).text m.value) c.args.heading.now.events c.args.event.now
    c.args.meters.now.items c.process.new.meters.items c.args.out.now.items c.process.new.out.items c.process.new.exchange c.process.result
    (c.process.ensures.world s w given at) (c.process.ensures.bound ∙ is) (few_more g.P.Fabric.slots g.P.Fabric.moves told z _ c.args.event.now running.few is (c.process.ensures.few s w given at)) (c.process.ensures.line s w given at) (c.process.ensures.told s w given at)

pub returns-clause-front : goal.returns-clause-front
returns-clause-front g c told z due =
    let s = setting_said g.P.Fabric.slots z told in
    let w = world_said g.P.Fabric.slots z told in
    c.process.ensures.told_front s w (given_here g.C.Carrier.carries g.C.Carrier.next g.C.Carrier.sizes g.P.Fabric.slots g.P.Fabric.moves told z c.args.heading.now c.args.exchange.now due.heard) (at_driver g.C.Carrier.carries g.C.Carrier.next g.C.Carrier.sizes g.P.Fabric.slots g.P.Fabric.moves told z c.args.heading.now c.ready.new.exchange c.in-Some.driver (c.in_ok-ready.ensures.running told z due.heard) c.in-Some.is)
