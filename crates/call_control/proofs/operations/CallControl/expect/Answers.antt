use Rattle.std.proofs.Common.{refl, rules, ◌≡◌, ◌∙◌, ap}
use Rattle.q931_codec.specs.Outgoing.{encoding, outgoing_of}
use Rattle.call_states.specs.declared.leg.Leg.{Leg}
use Rattle.call_profile.specs.Legs.{waiting_from, with_kept}
use Rattle.call_control.proofs.MakingLemmas.{makes_expect}
use Rattle.call_control.proofs.operations.CallControl.expect.Goals as goal

pub returns-clause-makes : goal.returns-clause-makes
returns-clause-makes g c d m made =
    let start = c.args.self.now in
    let octets : c.of-octets.result ≡ encoding (outgoing_of c.args.message.now) = search rules in
    let leg = c.waiting_from-leg.ensures ∙ ap (λ next. waiting_from next c.args.leg) c.next_frame.ensures.number in
    makes_expect d start.map start.map start.legs c.put_awaiting.new.self c.args.out.now.sends c.push.new.self c.args.out.now.moved c.args.out.now.moved m made c.args.x c.args.leg (outgoing_of c.args.message.now)
    c.of-octets.result octets refl (c.put_awaiting.ensures ∙ ap (λ (l : Leg). with_kept start.legs c.args.x l c.of-octets.result) leg) c.push.ensures refl
