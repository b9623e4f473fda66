use Rattle.std.proofs.Common.{[], ◌∷◌, subst}
use Rattle.q931_codec.specs.Outgoing.{OutgoingMessage}
use Rattle.call_states.specs.declared.leg.Leg.{Leg}
use Rattle.call_profile.specs.Operations.{Put, Expect, Send, making_after, making_after_all}
use Rattle.call_profile.specs.Setup.{call_proceeding, called_leg, offer}
use Rattle.call_control.specs.Asked.{asked_of}
use Rattle.call_control.specs.Standing.{Makes}
use Rattle.call_control.proofs.MakingLemmas.{makes_put, makes_sent}
use Rattle.call_control.proofs.operations.CallControl.call_line.Goals as goal

pub returns-clause-makes : goal.returns-clause-makes
returns-clause-makes g c d m made =
    let start = c.args.self.now in
    let out = c.args.out.now in
    let first = c.args.caller.first in
    let x = c.args.caller.slot in
    let y = c.args.y in
    let calling = c.caller_leg-calling.result in
    let called = c.called_leg-called.result in
    let one = c.put.new.self in
    let after = c.expect.new.self in
    let sent = c.expect.new.out in
    let told = call_proceeding first x calling in
    let put = makes_put d start.map one.map start.legs one.legs out.sends out.sends out.moved out.moved m made x calling c.put.ensures.map c.put.ensures.legs in
    let m1 = making_after d m (Put x calling) in
    let proceeds = makes_sent d one.map one.map one.legs one.legs out.sends c.send_proceeding.new.out.sends out.moved c.send_proceeding.new.out.moved m1 put x.line told c.send_proceeding.ensures.sends c.send_proceeding.ensures.moved in
    let offers = c.expect.ensures.makes d (making_after d m1 (Send x.line told)) proceeds in
    subst (λ (l : Leg). Makes d after.map after.legs sent.sends sent.moved (making_after_all d m (Put x l ∷ Send x.line (call_proceeding first x l) ∷ Expect y (called_leg c.args.reference x) (offer (asked_of c.args.asked.now) y (called_leg c.args.reference x)) ∷ []))) c.caller_leg-calling.ensures
    (subst (λ (l : Leg). Makes d after.map after.legs sent.sends sent.moved (making_after_all d m (Put x calling ∷ Send x.line told ∷ Expect y l (offer (asked_of c.args.asked.now) y l) ∷ []))) c.called_leg-called.ensures
    (subst (λ (k : OutgoingMessage). Makes d after.map after.legs sent.sends sent.moved (making_after_all d m (Put x calling ∷ Send x.line told ∷ Expect y called k ∷ []))) c.offer.ensures offers))
