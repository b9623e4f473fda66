use Rattle.std.proofs.Common.{[], ◌∷◌, subst}
use Rattle.q931_codec.specs.declared.kind.MessageKind.TheVariants as kind
use Rattle.q931_codec.specs.Outgoing.{OutgoingMessage}
use Rattle.call_states.specs.declared.leg.Leg.{Leg}
use Rattle.call_profile.specs.Acts.{message_to}
use Rattle.call_profile.specs.Operations.{Clear, Expect, making_after, making_after_all}
use Rattle.call_control.specs.Standing.{Makes}
use Rattle.call_control.proofs.MakingLemmas.{makes_clear}
use Rattle.call_control.proofs.operations.CallControl.on_disconnect.Goals as goal

pub returns-clause-makes : goal.returns-clause-makes
returns-clause-makes g c d m made =
    let start = c.args.self.now in
    let out = c.args.out.now in
    let x = c.args.held.now.slot in
    let cleared = makes_clear d start.map c.clear.new.self.map start.legs c.clear.new.self.legs out.sends out.sends out.moved out.moved m made x (c.clear.ensures.holds d) in
    let told = c.expect.ensures.makes d (making_after d m (Clear x)) cleared in
    let after = c.expect.new.self in
    let sent = c.expect.new.out in
    subst (λ (l : Leg). Makes d after.map after.legs sent.sends sent.moved (making_after_all d m (Clear x ∷ Expect x l (message_to c.args.held.now.leg kind.Release) ∷ []))) c.in_release_request.ensures
    (subst (λ (k : OutgoingMessage). Makes d after.map after.legs sent.sends sent.moved (making_after_all d m (Clear x ∷ Expect x c.in_release_request.result k ∷ []))) c.message_to-release.ensures told)
