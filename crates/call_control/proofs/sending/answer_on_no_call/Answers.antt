use Rattle.std.proofs.Common.{◌≡◌, Option, Some, sym, ◌∙◌, ap, subst}
use Rattle.std.specs.Prelude.{IfSome, option_map}
use Rattle.q931_codec.specs.Outgoing.{OutgoingMessage, IsWritable, outgoing_of}
use Rattle.clearing_rules.specs.UnknownReference.{answer_without_call}
use Rattle.clearing_rules.proofs.AnswerFacts.{answer_writable}
use Rattle.call_control.proofs.sending.answer_on_no_call.Goals as goal

pub send-requires-clause-writable : goal.send-requires-clause-writable
send-requires-clause-writable c =
    let m = c.args.message.now in
    let sent : answer_without_call m ≡ Some (outgoing_of c.in-Some.answer) = sym c.unknown_reference.ensures.answer ∙ ap (option_map outgoing_of) c.in-Some.is in
    subst (λ (o : Option OutgoingMessage). IfSome o IsWritable) sent (answer_writable m c.requires.reference)
