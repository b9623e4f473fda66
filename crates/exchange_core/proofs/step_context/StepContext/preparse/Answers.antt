use Rattle.std.proofs.Common.{◌≡◌, is_some, subst}
use Rattle.exchange_events.specs.Orders.{event_at}
use Rattle.exchange_events.specs.declared.trace.Event.{Event}
use Rattle.exchange_core.specs.Ahead.{is_readable}
use Rattle.exchange_core.proofs.StepLemmas.{one_number, read_at}
use Rattle.exchange_core.proofs.step_context.StepContext.preparse.Goals as goal

pub returns-clause-ahead : goal.returns-clause-ahead
returns-clause-ahead c = read_at c.args.trace.now c.args.event c.event.result.now _ c.event.ensures c.event_ahead-self.ensures.read

pub returns-clause-exact : goal.returns-clause-exact
returns-clause-exact c = λ e named.
    subst (λ (f : Event). is_some c.event_ahead-self.result ≡ is_readable f)
    (one_number (event_at c.args.trace.now.events c.args.event) c.event.result.now e c.event.ensures named) c.event_ahead-self.ensures.exact
