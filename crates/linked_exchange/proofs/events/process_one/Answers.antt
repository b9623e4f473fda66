use Rattle.std.proofs.Common.{List, ℕ, sym, ap, ◌∙◌, subst}
use Rattle.exchange_events.specs.declared.trace.Event.TheVariants.{Message}
use Rattle.exchange_events.specs.Sound.{Fits}
use Rattle.call_profile.specs.Step.{next, reply}
use Rattle.link_table.specs.declared.notice.Notice.{Notice}
use Rattle.lone_exchange.specs.At.{IsAt}
use Rattle.linked_exchange.specs.Steps.{event_of}
use Rattle.linked_exchange.proofs.AtLemmas.{below_of}
use Rattle.linked_exchange.proofs.events.process_one.Goals as goal

pub receive-requires-clause-at : goal.receive-requires-clause-at
receive-requires-clause-at g c lifetimes outlive = (c.args.settings.now.timers.now, c.requires.at)

pub receive-requires-clause-fits : goal.receive-requires-clause-fits
receive-requires-clause-fits g c lifetimes outlive =
    subst (λ (m : List ℕ). Fits c.args.exchange.now.control.map.external (Message c.args.line m)) (sym c.octets-octets.ensures)
    (subst (λ (n : Notice). Fits c.args.exchange.now.control.map.external (event_of c.args.line n)) c.in-Message.is c.requires.fits)

pub change_link-requires-clause-line : goal.change_link-requires-clause-line
change_link-requires-clause-line g c lifetimes outlive =
    below_of c.args.exchange.now.control.map.external c.args.line _ (subst (λ (n : Notice). Fits c.args.exchange.now.control.map.external (event_of c.args.line n)) c.in-Link.is c.requires.fits)

pub returns-in-Message-clause-world : goal.returns-in-Message-clause-world
returns-in-Message-clause-world g c s w given at =
    subst (λ (n : Notice). IsAt g.C.Carrier.carries g.C.Carrier.next g.C.Carrier.sizes c.receive.new.self s (next s w (event_of c.args.line n))) (sym c.in-Message.is)
    (subst (λ (m : List ℕ). IsAt g.C.Carrier.carries g.C.Carrier.next g.C.Carrier.sizes c.receive.new.self s (next s w (Message c.args.line m))) c.octets-octets.ensures
    (c.receive.ensures.world c.args.settings.now.timers.now s w given at))

pub returns-in-Message-clause-reply : goal.returns-in-Message-clause-reply
returns-in-Message-clause-reply g c s w given at =
    c.receive.ensures.reply c.args.settings.now.timers.now s w given at
    ∙ (ap (λ (m : List ℕ). reply s w (Message c.args.line m)) c.octets-octets.ensures ∙ ap (λ (n : Notice). reply s w (event_of c.args.line n)) (sym c.in-Message.is))
