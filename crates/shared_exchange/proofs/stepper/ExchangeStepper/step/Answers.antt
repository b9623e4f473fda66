use Rattle.std.proofs.Common.{subst}
use Rattle.exchange_events.specs.Responses.{reply_of}
use Rattle.exchange_core.specs.Working.{Working}
use Rattle.shared_exchange.specs.Sharing.{Answers, board_of}
use Rattle.shared_exchange.proofs.stepper.ExchangeStepper.step.Goals as goal

pub returns-clause-answers : goal.returns-clause-answers
returns-clause-answers g c =
    let done = c.step_into.ensures in (
      subst (λ (m : Working). Answers (board_of m) m.journal c.args.event (reply_of c.step_into.result c.step_into.new.context.out) c.step_into.new.context.tool) c.deref_mut.ensures.value
          record { reply = done.reply; few = done.few; shows = done.shows; tool_is = done.tool },
      done.ahead,
    )
