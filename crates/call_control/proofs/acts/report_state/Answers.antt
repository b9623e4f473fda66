use Rattle.std.proofs.Common.{◌++◌, [], ◌∷◌, ◌∙◌, ap}
use Rattle.q931_codec.specs.Outgoing.{OutgoingMessage, encoding}
use Rattle.call_control.proofs.acts.report_state.Goals as goal

pub returns-clause-sends : goal.returns-clause-sends
returns-clause-sends c =
    c.send.ensures.sends ∙ ap (λ (m : OutgoingMessage). c.args.out.now.sends ++ record { line = c.args.held.now.slot.line; octets = encoding m } ∷ []) c.status_message.ensures
