use Rattle.std.proofs.Common.{Ok, Option, Result, ap, refl, subst, sym, ◌∙◌}
use Rattle.call_profile.specs.Step.{world_after_all}
use Rattle.link_table.specs.declared.notice.NoLinkError.{NoLinkError}
use Rattle.link_table.specs.declared.notice.Notice.{Notice}
use Rattle.lone_exchange.specs.At.{IsAt}
use Rattle.linked_exchange.specs.Steps.{noticed_events}
use Rattle.linked_exchange.proofs.AtLemmas.{cleared_notice}
use Rattle.linked_exchange.proofs.events.process_notice.Goals as goal

pub returns-in-Ok-None-clause-world : goal.returns-in-Ok-None-clause-world
returns-in-Ok-None-clause-world g c s w given at =
    cleared_notice g.C.Carrier.carries g.C.Carrier.next g.C.Carrier.sizes c.args.exchange.now _ s w c.args.line at refl refl refl refl c.args.received
    (ap (noticed_events c.args.line) (c.in-Ok-None.is ∙ ap Ok c.in-Ok-None.field-0-is))

pub returns-in-Err-clause-world : goal.returns-in-Err-clause-world
returns-in-Err-clause-world g c s w given at =
    cleared_notice g.C.Carrier.carries g.C.Carrier.next g.C.Carrier.sizes c.args.exchange.now _ s w c.args.line at refl refl refl refl c.args.received
    (ap (noticed_events c.args.line) c.in-Err.is)

pub returns-in-Ok-Some-clause-world : goal.returns-in-Ok-Some-clause-world
returns-in-Ok-Some-clause-world g c s w given at =
    subst (λ (r : Result (Option Notice) NoLinkError). IsAt g.C.Carrier.carries g.C.Carrier.next g.C.Carrier.sizes c.process_one.new.exchange s (world_after_all s w (noticed_events c.args.line r)))
    (sym (c.in-Ok-Some.is ∙ ap Ok c.in-Ok-Some.field-0-is)) (c.process_one.ensures.world s w given at)
