use Rattle.std.proofs.Common.{sym, ap, ◌∙◌, subst}
use Rattle.exchange_events.specs.declared.trace.Event.{Event}
use Rattle.call_profile.specs.Step.{MovesAtMost, next, reply}
use Rattle.lone_exchange.specs.At.{IsAt}
use Rattle.linked_exchange.proofs.AtLemmas.{change_fits, change_no_frame, change_replied}
use Rattle.linked_exchange.proofs.events.change_link.Goals as goal

pub happen-requires-clause-fits : goal.happen-requires-clause-fits
happen-requires-clause-fits g c lifetimes outlive = change_fits c.args.exchange.now.control.map.external c.args.line c.args.change c.event_of-event.result c.event_of-event.ensures c.requires.line

pub returns-clause-world : goal.returns-clause-world
returns-clause-world g c s w given at =
    subst (λ (e : Event). IsAt g.C.Carrier.carries g.C.Carrier.next g.C.Carrier.sizes c.happen.new.self s (next s w e)) c.event_of-event.ensures (c.happen.ensures.world s w given at)

pub returns-clause-reply : goal.returns-clause-reply
returns-clause-reply g c s w given at =
    change_replied s w c.args.line c.args.change c.event_of-event.result c.happen.result c.happen.new.self.context.out c.event_of-event.ensures (c.happen.ensures.reply s w given at)

pub returns-clause-few : goal.returns-clause-few
returns-clause-few g c =
    let (s, w, given, at) = c.requires.at in
    let replied = c.happen.ensures.reply s w given at in
    let sent = change_replied s w c.args.line c.args.change c.event_of-event.result c.happen.result c.happen.new.self.context.out c.event_of-event.ensures replied in
    subst (MovesAtMost c.args.exchange.now.control.map.bound) (replied ∙ (ap (reply s w) c.event_of-event.ensures ∙ sym sent)) c.happen.ensures.few

pub returns-clause-octets : goal.returns-clause-octets
returns-clause-octets g c = c.happen.ensures.octets (change_no_frame c.args.line c.args.change c.event_of-event.result c.event_of-event.ensures)
