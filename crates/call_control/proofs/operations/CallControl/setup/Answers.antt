use Rattle.std.proofs.Common.{◌≡◌, ℕ, [], true, Some, None, refl, sym, ◌∙◌, ap, subst}
use Rattle.std.specs.Prelude.{Ok, OnOk, Result, unwrap_or}
use Rattle.circuit_model.specs.Extent.{IsExternal}
use Rattle.q931_codec.specs.Contents.{channel_in}
use Rattle.call_states.specs.declared.pending.Pending.{Pending}
use Rattle.call_states.specs.Pending.{FitsElements}
use Rattle.call_profile.specs.Operations.{making_at}
use Rattle.call_profile.specs.Setup.{accept, accept_at, call_asked, caller_slot, checks, digits_in, refusal, refuse, setup}
use Rattle.call_profile.proofs.AcceptedSetupLemmas.{can_seat, refusal_small}
use Rattle.call_profile.proofs.PermittedSetupLemmas.{asked_fits}
use Rattle.call_profile.proofs.SetupLemmas.{all_pass}
use Rattle.call_control.specs.declared.setup_checks.Admitted.{Admitted}
use Rattle.call_control.specs.Asked.{asked_of}
use Rattle.call_control.specs.Choices.{IsWithin, accept_side, called_side}
use Rattle.call_control.proofs.SetupMakingLemmas.{external_by, leads_to_room, makes_begun, makes_same, number_reaches, on_err, on_ok, side_accepts}
use Rattle.call_control.proofs.operations.CallControl.setup.Goals as goal

pub admit-requires-clause-reached : goal.admit-requires-clause-reached
admit-requires-clause-reached g c =
    let work = c.requires.work in
    number_reaches work.0 work.0.plan c.args.self.now.map (unwrap_or (digits_in c.args.message.now) []) c.args.number.now.target refl work.3.holds.sizes work.3.planned work.2.leads

pub refuse-requires-clause-cause : goal.refuse-requires-clause-cause
refuse-requires-clause-cause g c =
    let work = c.requires.work in
    let m = c.args.message.now in
    refusal_small work.0 work.1 c.args.line m c.in-Err.cause
    (on_err c.admit.result c.in-Err.cause (λ cause. refusal work.0 work.1 c.args.line m ≡ Some cause) c.in-Err.is (c.admit.ensures.refused work.0 work.1 (sym work.2.leads) work.3.holds))

pub returns-in-Err-clause-makes : goal.returns-in-Err-clause-makes
returns-in-Err-clause-makes g c s w dialled work =
    let m = c.args.message.now in
    let now = c.args.self.now in
    let cause = c.in-Err.cause in
    let refused = on_err c.admit.result cause (λ cause. refusal s w c.args.line m ≡ Some cause) c.in-Err.is (c.admit.ensures.refused s w (sym dialled.leads) work.holds) in
    makes_same s.dimensions now.map now.legs c.refuse.new.out.sends c.refuse.new.out.moved (making_at w) (refuse c.args.line m.reference cause) (setup s w c.args.line m (refusal s w c.args.line m)) (ap (setup s w c.args.line m) refused)
    (c.refuse.ensures.makes now.map now.legs s.dimensions (making_at w) (makes_begun s.dimensions now.map now.legs c.args.out.now.sends c.args.out.now.moved w work.holds c.requires.fresh))

pub accept-requires-clause-external : goal.accept-requires-clause-external
accept-requires-clause-external g c =
    (on_ok c.admit.result c.in-Ok.admitted (λ (a : Admitted). IsExternal c.args.self.now.map.external a.slot × IsWithin c.args.self.now.map.external a.called) c.in-Ok.is c.admit.ensures.within).0

pub accept-requires-clause-within : goal.accept-requires-clause-within
accept-requires-clause-within g c =
    (on_ok c.admit.result c.in-Ok.admitted (λ (a : Admitted). IsExternal c.args.self.now.map.external a.slot × IsWithin c.args.self.now.map.external a.called) c.in-Ok.is c.admit.ensures.within).1

pub accept-requires-clause-seats : goal.accept-requires-clause-seats
accept-requires-clause-seats g c room is_room =
    let work = c.requires.work in
    let s = work.0 in
    let w = work.1 in
    let m = c.args.message.now in
    let admitted = c.in-Ok.admitted in
    let target = c.args.number.now.target in
    let holds = work.3.holds in
    let passes : refusal s w c.args.line m ≡ None = subst (λ (r : Result Admitted ℕ). OnOk r (refusal s w c.args.line m ≡ None)) c.in-Ok.is (c.admit.ensures.passed s w (sym work.2.leads) holds) in
    let is = on_ok c.admit.result admitted (λ (a : Admitted). caller_slot w c.args.line (channel_in m.elements) ≡ Some a.slot) c.in-Ok.is (c.admit.ensures.caller s.dimensions w holds) in
    let side = on_ok c.admit.result admitted (λ (a : Admitted). called_side s.dimensions w a.slot target ≡ Ok a.called) c.in-Ok.is (c.admit.ensures.called s.dimensions w holds) in
    let leads = leads_to_room s.dimensions w admitted.slot target room (side ∙ ap (λ called. Ok called) is_room) in
    (s.dimensions, w, holds, can_seat s w c.args.line m admitted.slot room work.3.stands (external_by s c.args.self.now.map admitted.slot holds.sizes (accept-requires-clause-external g c)) passes is (sym work.2.leads ∙ leads))

pub accept-requires-clause-fits : goal.accept-requires-clause-fits
accept-requires-clause-fits g c =
    let work = c.requires.work in
    let m = c.args.message.now in
    let passes : refusal work.0 work.1 c.args.line m ≡ None = subst (λ (r : Result Admitted ℕ). OnOk r (refusal work.0 work.1 c.args.line m ≡ None)) c.in-Ok.is (c.admit.ensures.passed work.0 work.1 (sym work.2.leads) work.3.holds) in
    subst FitsElements (sym c.asked_by.ensures) (asked_fits m (all_pass (checks work.0 work.1 c.args.line m) passes).1.0)

pub returns-in-Ok-clause-makes : goal.returns-in-Ok-clause-makes
returns-in-Ok-clause-makes g c s w dialled work =
    let m = c.args.message.now in
    let admitted = c.in-Ok.admitted in
    let target = c.args.number.now.target in
    let passes : refusal s w c.args.line m ≡ None = subst (λ (r : Result Admitted ℕ). OnOk r (refusal s w c.args.line m ≡ None)) c.in-Ok.is (c.admit.ensures.passed s w (sym dialled.leads) work.holds) in
    let is = on_ok c.admit.result admitted (λ (a : Admitted). caller_slot w c.args.line (channel_in m.elements) ≡ Some a.slot) c.in-Ok.is (c.admit.ensures.caller s.dimensions w work.holds) in
    let side = on_ok c.admit.result admitted (λ (a : Admitted). called_side s.dimensions w a.slot target ≡ Ok a.called) c.in-Ok.is (c.admit.ensures.called s.dimensions w work.holds) in
    makes_same s.dimensions c.accept.new.self.map c.accept.new.self.legs c.accept.new.out.sends c.accept.new.out.moved (making_at w)
    (accept_side true w m.reference (asked_of c.asked_by.result) admitted.slot admitted.called) (setup s w c.args.line m (refusal s w c.args.line m))
    (ap (setup s w c.args.line m) passes ∙ ap (accept_at s w m) is ∙ ap (accept true w m.reference (call_asked m) admitted.slot) (sym dialled.leads)
    ∙ side_accepts w true m.reference (call_asked m) admitted.slot s.dimensions target admitted.called side
    ∙ ap (λ (asked : Pending). accept_side true w m.reference asked admitted.slot admitted.called) (sym c.asked_by.ensures))
    (c.accept.ensures.makes s.dimensions w work.holds)
