use Rattle.std.proofs.Common.{◌≡◌, refl, ap, arith}
use Rattle.circuit_model.specs.Dimensions.{Dimensions}
use Rattle.exchange_events.specs.Sizes.{Setting}
use Rattle.call_profile.specs.World.{start}
use Rattle.lone_exchange.specs.At.{size}
use Rattle.linked_exchange.proofs.AtLemmas.{external_at, frames_at, planned_by}
use Rattle.linked_exchange.proofs.LinkLemmas.{size-new_table}
use Rattle.linked_exchange.proofs.exchange.LinkedExchange.new.Goals as goal

pub put_down-requires-clause-at : goal.put_down-requires-clause-at
put_down-requires-clause-at g c lifetimes outlive =
    let settings = c.args.settings.now in
    let d = size c.args.external c.args.bridges (g.P.PathMap.depth c.args.paths) in
    let s : Setting = record { dimensions = d; plan = settings.plan.now; tones = settings.tones.now; timers = settings.timers.now } in
    (s, start d, record { plan_is = refl; tones_are = refl; timers_are = refl }, c.in_ok-exchange.ensures.start s refl c.requires.planned)

pub put_down-requires-clause-lines : goal.put_down-requires-clause-lines
put_down-requires-clause-lines g c lifetimes outlive =
    let settings = c.args.settings.now in
    let d = size c.args.external c.args.bridges (g.P.PathMap.depth c.args.paths) in
    let s : Setting = record { dimensions = d; plan = settings.plan.now; tones = settings.tones.now; timers = settings.timers.now } in
    let external = external_at g.C.Carrier.carries g.C.Carrier.next g.C.Carrier.sizes c.in_ok-exchange.exchange s (start d) (c.in_ok-exchange.ensures.start s refl c.requires.planned) in
    let few = c.requires.linked in
    omega (arith, external, few)

pub put_down-requires-clause-room : goal.put_down-requires-clause-room
put_down-requires-clause-room g c lifetimes outlive =
    let settings = c.args.settings.now in
    let d = size c.args.external c.args.bridges (g.P.PathMap.depth c.args.paths) in
    let s : Setting = record { dimensions = d; plan = settings.plan.now; tones = settings.tones.now; timers = settings.timers.now } in
    let first : c.in_ok-exchange.exchange.control.map.next ≡ 0 = frames_at g.C.Carrier.carries g.C.Carrier.next g.C.Carrier.sizes c.in_ok-exchange.exchange s (start d) (c.in_ok-exchange.ensures.start s refl c.requires.planned) in
    omega (arith, first)

pub returns-clause-start : goal.returns-clause-start
returns-clause-start g c s dims given =
    let planned = planned_by c.args.settings.now (size c.args.external c.args.bridges (g.P.PathMap.depth c.args.paths)) s dims given c.requires.planned in
    let few = c.requires.linked in
    let long = size-new_table c.args.linked.now 0 in
    let external = ap (λ (d : Dimensions). d.external) dims in
    record {
      exchange = c.put_down.ensures.world s (start s.dimensions) given (c.in_ok-exchange.ensures.start s dims planned);
      links = c.in_ok-links.ensures;
      ended = refl;
      lines = omega (arith, few, long, external);
    }
