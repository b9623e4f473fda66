use Rattle.std.proofs.Common.{refl, ◌∙◌, ap}
use Rattle.call_states.specs.declared.leg.Leg.{Leg}
use Rattle.call_profile.specs.Legs.{waiting_from, with_waiting}
use Rattle.call_control.proofs.MakingLemmas.{makes_wait}
use Rattle.call_control.proofs.operations.CallControl.wait.Goals as goal

pub returns-clause-legs : goal.returns-clause-legs
returns-clause-legs g c =
    let leg = c.waiting_from.ensures ∙ ap (λ next. waiting_from next c.args.leg) c.next_frame.ensures.number in
    c.put_pending.ensures ∙ ap (λ (l : Leg). with_waiting c.args.self.now.legs c.args.x l c.args.pending) leg

pub returns-clause-makes : goal.returns-clause-makes
returns-clause-makes g c d m made =
    let start = c.args.self.now in
    makes_wait d start.map start.map start.legs c.put_pending.new.self m.sends m.sends m.moves m.moves m made c.args.x c.args.leg c.args.pending refl (returns-clause-legs g c)
