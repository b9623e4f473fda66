use Rattle.linked_exchange.proofs.LinkedSteppingLemmas.{linked_ready, no_linked}
use Rattle.linked_exchange.proofs.SteppingLemmas.{on_err}
use Rattle.linked_exchange.proofs.Tellings.{none_front}
use Rattle.exchange_follow.proofs.linked_stepping.advance_linked.Goals as goal

pub returns-in_err-ready_linked-clause-front : goal.returns-in_err-ready_linked-clause-front
returns-in_err-ready_linked-clause-front g c told z due = on_err c.from_residual.result (none_front (λ m. (goal.Meter-dyn g (m.vtable, m.value)).stands m.value) (λ m. (goal.Meter-dyn g (m.vtable, m.value)).text m.value) c.args.meters.now.items _)

pub unreachable-requires : goal.unreachable-requires
unreachable-requires g c =
    let (told, z, due) = c.requires.due in
    no_linked g.C.Carrier.carries g.C.Carrier.next g.C.Carrier.sizes g.P.Fabric.slots g.P.Fabric.moves told z c.args.heading.now c.ready_linked.new.exchange (c.in_ok-ready_linked.ensures.running told z due.heard) c.in_default.is

pub process_linked-done-requires-clause-due : goal.process_linked-done-requires-clause-due
process_linked-done-requires-clause-due g c κs within =
    let (told, z, due) = c.requires.due in
    (told, z, linked_ready g.C.Carrier.carries g.C.Carrier.next g.C.Carrier.sizes g.P.Fabric.slots g.P.Fabric.moves told z c.args.heading.now c.ready_linked.new.exchange c.in-Some.driver c.args.event.now c.args.exchange.now (c.in_ok-ready_linked.ensures.running told z due.heard) c.in-Some.is due)

pub returns-then-is_err-clause-front : goal.returns-then-is_err-clause-front
returns-then-is_err-clause-front g c told z due = c.process_linked-done.ensures.front told z (linked_ready g.C.Carrier.carries g.C.Carrier.next g.C.Carrier.sizes g.P.Fabric.slots g.P.Fabric.moves told z c.args.heading.now c.ready_linked.new.exchange c.in-Some.driver c.args.event.now c.args.exchange.now (c.in_ok-ready_linked.ensures.running told z due.heard) c.in-Some.is due)

pub returns-else-is_err-clause-happened : goal.returns-else-is_err-clause-happened
returns-else-is_err-clause-happened g c told z due = c.process_linked-done.ensures.happened told z (linked_ready g.C.Carrier.carries g.C.Carrier.next g.C.Carrier.sizes g.P.Fabric.slots g.P.Fabric.moves told z c.args.heading.now c.ready_linked.new.exchange c.in-Some.driver c.args.event.now c.args.exchange.now (c.in_ok-ready_linked.ensures.running told z due.heard) c.in-Some.is due)

pub returns-else-is_err-clause-front : goal.returns-else-is_err-clause-front
returns-else-is_err-clause-front g c told z due = c.process_linked-done.ensures.front told z (linked_ready g.C.Carrier.carries g.C.Carrier.next g.C.Carrier.sizes g.P.Fabric.slots g.P.Fabric.moves told z c.args.heading.now c.ready_linked.new.exchange c.in-Some.driver c.args.event.now c.args.exchange.now (c.in_ok-ready_linked.ensures.running told z due.heard) c.in-Some.is due)
