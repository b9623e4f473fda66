use Rattle.std.proofs.Common.{All, sym, ap, ◌∙◌, subst}
use Rattle.exchange_events.specs.declared.outbox.Response.TheVariants.{Sent}
use Rattle.exchange_events.specs.Sound.{Fits}
use Rattle.link_table.specs.Steps.{changed_at, line_of_turn, turned_at}
use Rattle.link_table.specs.Tables.{Table}
use Rattle.linked_exchange.specs.Steps.{Turns, changed_events}
use Rattle.linked_exchange.proofs.AtLemmas.{few_at, free_at, replied_by, stepped_by, time_at}
use Rattle.linked_exchange.proofs.LinkLemmas.{messages-turned_at}
use Rattle.linked_exchange.proofs.PlainLemmas.{changed_fits}
use Rattle.linked_exchange.proofs.exchange.LinkedExchange.turn.Goals as goal

pub turn-change-requires : goal.turn-change-requires
turn-change-requires g c =
    let (s, j, given, at) = c.requires.at in
    free_at g.C.Carrier.carries g.C.Carrier.next g.C.Carrier.sizes c.args.self.now s j at

pub process_change-requires-clause-at : goal.process_change-requires-clause-at
process_change-requires-clause-at g c lifetimes outlive =
    let (s, j, given, at) = c.requires.at in
    (s, j.world, given, at.exchange)

pub process_change-requires-clause-fits : goal.process_change-requires-clause-fits
process_change-requires-clause-fits g c lifetimes outlive =
    let (s, j, given, at) = c.requires.at in
    let x = c.args.self.now in
    subst (λ r. All (Fits x.exchange.control.map.external) (changed_events (line_of_turn c.next_frame-at.result) r)) (sym c.turn-change.ensures.change)
    (changed_fits x.exchange.control.map.external c.args.settings.now.link_timers.now c.next_frame-at.result x.links
    (few_at g.C.Carrier.carries g.C.Carrier.next g.C.Carrier.sizes x s j at))

pub end_step-requires : goal.end_step-requires
end_step-requires g c =
    ap (λ (t : Table). t.messages) c.turn-change.ensures.table ∙ messages-turned_at c.args.settings.now.link_timers.now c.next_frame-at.result c.args.self.now.links

pub returns-clause-step : goal.returns-clause-step
returns-clause-step g c s j given at =
    let timers = c.args.settings.now.link_timers.now in
    let time = c.next_frame-at.ensures.number ∙ time_at g.C.Carrier.carries g.C.Carrier.next g.C.Carrier.sizes c.args.self.now s j at in
    stepped_by g.C.Carrier.carries g.C.Carrier.next g.C.Carrier.sizes c.args.self.now s j at timers Turns
    (changed_events (line_of_turn c.next_frame-at.result) c.turn-change.result)
    (ap (changed_events (line_of_turn c.next_frame-at.result)) c.turn-change.ensures.change ∙ (λ k. changed_events (line_of_turn (time k)) (changed_at timers (time k) (at.links k))))
    Sent _ c.turn-change.new.self c.next_frame-end.result
    (c.process_change.ensures.world s j.world given at.exchange) (c.process_change.ensures.reply s j.world given at.exchange)
    c.next_frame-end.ensures.number (c.turn-change.ensures.table ∙ (λ k. turned_at timers (time k) (at.links k))) c.end_step.ensures

pub returns-clause-reply : goal.returns-clause-reply
returns-clause-reply g c s j given at =
    let timers = c.args.settings.now.link_timers.now in
    let time = c.next_frame-at.ensures.number ∙ time_at g.C.Carrier.carries g.C.Carrier.next g.C.Carrier.sizes c.args.self.now s j at in
    replied_by g.C.Carrier.carries g.C.Carrier.next g.C.Carrier.sizes c.args.self.now s j at timers Turns
    (changed_events (line_of_turn c.next_frame-at.result) c.turn-change.result)
    (ap (changed_events (line_of_turn c.next_frame-at.result)) c.turn-change.ensures.change ∙ (λ k. changed_events (line_of_turn (time k)) (changed_at timers (time k) (at.links k))))
    Sent c.process_change.new.exchange.context.out (c.process_change.ensures.reply s j.world given at.exchange)

pub returns-clause-change : goal.returns-clause-change
returns-clause-change g c =
    c.turn-change.ensures.change ∙ ap (λ n. changed_at c.args.settings.now.link_timers.now n c.args.self.now.links) c.next_frame-at.ensures.number
