use Rattle.std.proofs.Common.{refl, ◌∙◌, ap}
use Rattle.call_states.specs.declared.leg.Leg.{Leg}
use Rattle.call_profile.specs.Legs.{waiting_from, with_leg}
use Rattle.call_control.proofs.MakingLemmas.{makes_put}
use Rattle.call_control.proofs.operations.CallControl.put.Goals as goal

pub returns-clause-legs : goal.returns-clause-legs
returns-clause-legs g c =
    let leg = c.waiting_from.ensures ∙ ap (λ next. waiting_from next c.args.leg) c.next_frame.ensures.number in
    c.put.ensures ∙ ap (λ (l : Leg). with_leg c.args.self.now.legs c.args.x l) leg

pub returns-clause-makes : goal.returns-clause-makes
returns-clause-makes g c d m made =
    let start = c.args.self.now in
    makes_put d start.map start.map start.legs c.put.new.self m.sends m.sends m.moves m.moves m made c.args.x c.args.leg refl (returns-clause-legs g c)
