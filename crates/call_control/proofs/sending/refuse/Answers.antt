use Rattle.std.proofs.Common.{true, Some}
use Rattle.q931_codec.specs.declared.kind.MessageKind.TheVariants as kind
use Rattle.q931_codec.specs.Outgoing.{bare, outgoing_of}
use Rattle.call_control.proofs.MakingLemmas.{makes_send}
use Rattle.call_control.proofs.sending.refuse.Goals as goal

pub returns-clause-makes : goal.returns-clause-makes
returns-clause-makes c map legs d m makes =
    makes_send d map map legs legs c.args.out.now.sends c.send.new.out.sends c.args.out.now.moved c.send.new.out.moved m makes c.args.line (outgoing_of c.release_complete.result)
    (record (bare true c.args.reference kind.ReleaseComplete) { cause = Some c.args.cause }) c.release_complete.ensures c.send.ensures.sends c.send.ensures.moved
