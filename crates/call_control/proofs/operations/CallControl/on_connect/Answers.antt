use Rattle.std.proofs.Common.{sym, ◌∙◌, ap}
use Rattle.q931_codec.specs.CallStates.{active}
use Rattle.call_profile.specs.Acts.{in_state}
use Rattle.call_profile.specs.Legs.{Legs}
use Rattle.call_control.proofs.ActMakingLemmas.{answered_done, answered_makes}
use Rattle.call_control.proofs.operations.CallControl.on_connect.Goals as goal

pub returns-clause-makes : goal.returns-clause-makes
returns-clause-makes g c d m made =
    let start = c.args.self.now in
    let out = c.args.out.now in
    let connected = c.connect.new.self in
    let one = c.put_answered.new.self in
    let both = c.put_answered-2.new.self in
    let held = c.args.held.now in
    let caller = c.in-Some.caller in
    let first_down = sym (ap (λ (ls : Legs). ls.down) c.connect.ensures.legs) in
    let second_down = first_down ∙ sym c.put_answered.ensures.down in
    answered_makes d start.map connected.map one.map both.map start.legs connected.legs one.legs both.legs out.sends c.send_bare.new.out.sends c.send_bare-2.new.out.sends out.moved c.send_bare-2.new.out.moved
    c.connect.result c.args.peer.now held caller c.in-Some.is (c.connect.ensures.makes d)
    (λ m' made'. answered_done d connected.map one.map connected.legs one.legs _ _ start.legs held.slot _ (in_state active held.leg) c.in_state.ensures first_down c.put_answered.ensures.makes m' made')
    (λ m' made'. answered_done d one.map both.map one.legs both.legs _ _ start.legs caller.slot _ (in_state active caller.leg) c.in_state-2.ensures second_down c.put_answered-2.ensures.makes m' made')
    c.send_bare.ensures.sends c.send_bare-2.ensures.sends
    (c.send_bare-2.ensures.moved ∙ c.send_bare.ensures.moved) m made
