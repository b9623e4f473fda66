use Rattle.std.proofs.Common.{All, sym, ap, ◌∙◌, subst}
use Rattle.exchange_events.specs.declared.outbox.Response.TheVariants.{Sent}
use Rattle.exchange_events.specs.Sound.{Fits}
use Rattle.link_table.specs.Steps.{noticed_on, received_on}
use Rattle.link_table.specs.Tables.{Table}
use Rattle.linked_exchange.specs.Steps.{Receives, indicated, noticed_events}
use Rattle.linked_exchange.proofs.AtLemmas.{few_at, free_at, replied_by, stepped_by, time_at}
use Rattle.linked_exchange.proofs.LinkLemmas.{messages-received_on}
use Rattle.linked_exchange.proofs.PlainLemmas.{noticed_fits}
use Rattle.linked_exchange.proofs.exchange.LinkedExchange.receive.Goals as goal

pub receive-received-requires : goal.receive-received-requires
receive-received-requires g c =
    let (s, j, given, at) = c.requires.at in
    free_at g.C.Carrier.carries g.C.Carrier.next g.C.Carrier.sizes c.args.self.now s j at

pub process_notice-indication-requires-clause-at : goal.process_notice-indication-requires-clause-at
process_notice-indication-requires-clause-at g c lifetimes outlive =
    let (s, j, given, at) = c.requires.at in
    (s, j.world, given, at.exchange)

pub process_notice-indication-requires-clause-fits : goal.process_notice-indication-requires-clause-fits
process_notice-indication-requires-clause-fits g c lifetimes outlive =
    let (s, j, given, at) = c.requires.at in
    let x = c.args.self.now in
    subst (λ r. All (Fits x.exchange.control.map.external) (noticed_events c.args.line r)) (sym c.receive-received.ensures.notice)
    (noticed_fits x.exchange.control.map.external c.args.line c.args.octets.now c.next_frame-at.result x.links
    (few_at g.C.Carrier.carries g.C.Carrier.next g.C.Carrier.sizes x s j at) c.requires.octets)

pub end_step-requires : goal.end_step-requires
end_step-requires g c =
    ap (λ (t : Table). t.messages) c.receive-received.ensures.table ∙ messages-received_on c.args.line c.args.octets.now c.next_frame-at.result c.args.self.now.links

pub returns-clause-step : goal.returns-clause-step
returns-clause-step g c s j given at =
    let line = c.args.line in
    let octets = c.args.octets.now in
    let time = c.next_frame-at.ensures.number ∙ time_at g.C.Carrier.carries g.C.Carrier.next g.C.Carrier.sizes c.args.self.now s j at in
    stepped_by g.C.Carrier.carries g.C.Carrier.next g.C.Carrier.sizes c.args.self.now s j at c.args.settings.now.link_timers.now (Receives line octets)
    (noticed_events line c.receive-received.result) (ap (noticed_events line) (c.receive-received.ensures.notice ∙ (λ k. noticed_on line octets (time k) (at.links k))))
    Sent _ c.receive-received.new.self c.next_frame-end.result
    (c.process_notice-indication.ensures.world s j.world given at.exchange) (c.process_notice-indication.ensures.reply s j.world given at.exchange)
    c.next_frame-end.ensures.number (c.receive-received.ensures.table ∙ (λ k. received_on line octets (time k) (at.links k))) c.end_step.ensures

pub returns-clause-reply : goal.returns-clause-reply
returns-clause-reply g c s j given at =
    let line = c.args.line in
    let octets = c.args.octets.now in
    let time = c.next_frame-at.ensures.number ∙ time_at g.C.Carrier.carries g.C.Carrier.next g.C.Carrier.sizes c.args.self.now s j at in
    replied_by g.C.Carrier.carries g.C.Carrier.next g.C.Carrier.sizes c.args.self.now s j at c.args.settings.now.link_timers.now (Receives line octets)
    (noticed_events line c.receive-received.result) (ap (noticed_events line) (c.receive-received.ensures.notice ∙ (λ k. noticed_on line octets (time k) (at.links k))))
    Sent c.process_notice-indication.new.exchange.context.out (c.process_notice-indication.ensures.reply s j.world given at.exchange)

pub returns-clause-indication : goal.returns-clause-indication
returns-clause-indication g c =
    c.process_notice-indication.ensures.indication ∙ ap indicated (c.receive-received.ensures.notice
    ∙ ap (λ n. noticed_on c.args.line c.args.octets.now n c.args.self.now.links) c.next_frame-at.ensures.number)
