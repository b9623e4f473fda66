use Rattle.std.proofs.Common.{List, ℕ, subst, sym}
use Rattle.linked_exchange.specs.At.{Steps}
use Rattle.linked_exchange.specs.LinkedLines.{input_of}
use Rattle.linked_exchange.specs.Steps.{Receives}
use Rattle.linked_exchange.specs.declared.steps.LinkedEvent.{LinkedEvent}
use Rattle.linked_exchange.proofs.steps.put_step.Goals as goal

pub returns-in-Event-clause-step : goal.returns-in-Event-clause-step
returns-in-Event-clause-step g c =
    subst (λ (e : LinkedEvent). Steps g.C.Carrier.carries g.C.Carrier.next g.C.Carrier.sizes c.args.settings.now (input_of e) c.args.exchange.now c.put_event.new.exchange) (sym c.in-Event.is) c.put_event.ensures.step

pub returns-in_ok-put_received-in-Received-clause-step : goal.returns-in_ok-put_received-in-Received-clause-step
returns-in_ok-put_received-in-Received-clause-step g c =
    subst (λ (e : LinkedEvent). Steps g.C.Carrier.carries g.C.Carrier.next g.C.Carrier.sizes c.args.settings.now (input_of e) c.args.exchange.now c.put_received.new.exchange) (sym c.in-Received.is)
    (subst (λ (m : List ℕ). Steps g.C.Carrier.carries g.C.Carrier.next g.C.Carrier.sizes c.args.settings.now (Receives c.in-Received.line m) c.args.exchange.now c.put_received.new.exchange) c.as_slice.ensures c.put_received.ensures.step)
