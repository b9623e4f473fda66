use Rattle.std.proofs.Common.{[], ◌∷◌, refl, ap, ◌∙◌}
use Rattle.link_table.specs.Steps.{begun}
use Rattle.link_table.specs.Tables.{Table}
use Rattle.linked_exchange.specs.Steps.{Happens}
use Rattle.linked_exchange.proofs.AtLemmas.{free_at, stepped_by}
use Rattle.linked_exchange.proofs.exchange.LinkedExchange.happen.Goals as goal

pub begin-requires : goal.begin-requires
begin-requires g c =
    let (s, j, given, at) = c.requires.at in
    free_at g.C.Carrier.carries g.C.Carrier.next g.C.Carrier.sizes c.args.self.now s j at

pub happen-response-requires-clause-at : goal.happen-response-requires-clause-at
happen-response-requires-clause-at g c lifetimes outlive =
    let (s, j, given, at) = c.requires.at in
    (s, j.world, given, at.exchange)

pub end_step-requires : goal.end_step-requires
end_step-requires g c = ap (λ (t : Table). t.messages) c.begin.ensures

pub returns-clause-step : goal.returns-clause-step
returns-clause-step g c s j given at =
    stepped_by g.C.Carrier.carries g.C.Carrier.next g.C.Carrier.sizes c.args.self.now s j at c.args.settings.now.link_timers.now (Happens c.args.event.now) (c.args.event.now ∷ []) refl
    c.happen-response.result _ c.begin.new.self c.next_frame-at.result
    (c.happen-response.ensures.world s j.world given at.exchange) (c.happen-response.ensures.reply s j.world given at.exchange)
    c.next_frame-at.ensures.number (c.begin.ensures ∙ ap begun at.links) c.end_step.ensures

pub returns-clause-played : goal.returns-clause-played
returns-clause-played g c s j given at = c.happen-response.ensures.played s j.world given at.exchange
