use Rattle.std.proofs.Common.{◌≡◌, ℕ, [], Some, None, sym, ◌∙◌, ap, subst, true, false}
use Rattle.std.specs.Prelude.{Ok, OnOk, Result, is_none, unwrap_or}
use Rattle.std.specs.Option.{option_copied}
use Rattle.q931_codec.specs.Causes.{invalid_number_format}
use Rattle.q931_codec.specs.Contents.{dialled_digits}
use Rattle.tone_rules.specs.declared.tones.Tones.{Tones}
use Rattle.call_states.specs.declared.pending.Pending.{Pending}
use Rattle.call_profile.specs.Acts.{clear_with}
use Rattle.call_profile.specs.Digits.{adds_wrongly, asked_with, called_with, on_digits}
use Rattle.call_profile.specs.Operations.{making_at}
use Rattle.call_profile.specs.Setup.{accept, first_cause, target_dialled}
use Rattle.call_control.specs.declared.setup_checks.CalledSide.{CalledSide}
use Rattle.call_control.specs.Asked.{asked_of}
use Rattle.call_control.specs.Choices.{IsWithin, accept_side, called_side, dialled_checks}
use Rattle.call_control.proofs.AtWorkLemmas.{known_there}
use Rattle.call_control.proofs.DigitsMakingLemmas.{dialled_small, digits_accept, digits_clear, digits_refusal_wrong, digits_refusal_right, digits_seat}
use Rattle.call_control.proofs.SetupMakingLemmas.{leads_to_room, makes_begun, makes_same, number_reaches, on_err, on_ok, side_accepts}
use Rattle.call_control.proofs.operations.CallControl.on_digits.Goals as goal

pub returns-in_default-dialled_on-clause-makes : goal.returns-in_default-dialled_on-clause-makes
returns-in_default-dialled_on-clause-makes g c s w plan tones work =
    let now = c.args.self.now in
    let h = c.args.held.now in
    let m = c.args.message.now in
    let p = c.in-Some.number.now in
    let wrong : adds_wrongly p.called m ≡ true = sym c.dialled_on.ensures.none ∙ ap is_none c.in_default-dialled_on.is in
    let pends = sym c.pending.ensures ∙ ap option_copied c.in-Some.is in
    let clears = digits_clear s c.args.plan.now now.map now.legs w plan work h m c.requires.external c.requires.held c.requires.waits p pends invalid_number_format
    (digits_refusal_wrong s c.args.plan.now now.map now.legs w plan work h m c.requires.external c.requires.held c.requires.waits p pends wrong) in
    makes_same s.dimensions c.clear_leg.new.self.map c.clear_leg.new.self.legs c.clear_leg.new.out.sends c.clear_leg.new.out.moved (making_at w)
    (clear_with c.args.tones.now invalid_number_format h) (on_digits s w h m) (clears ∙ ap (λ (t : Tones). clear_with t invalid_number_format h) tones)
    (c.clear_leg.ensures.makes s.dimensions (making_at w) (makes_begun s.dimensions now.map now.legs c.args.out.now.sends c.args.out.now.moved w work.holds c.requires.fresh))

pub called_by_digits-requires : goal.called_by_digits-requires
called_by_digits-requires g c =
    let work = c.requires.work in
    record {
      reached = number_reaches work.0 c.args.plan.now c.args.self.now.map (unwrap_or (dialled_digits c.as_slice.result.now) []) c.look_up-dialled.result.target work.2 work.4.holds.sizes work.4.planned c.look_up-dialled.ensures.target;
    }

pub accept-requires-clause-within : goal.accept-requires-clause-within
accept-requires-clause-within g c = on_ok c.called_by_digits.result c.in-Ok.called (IsWithin c.args.self.now.map.external) c.in-Ok.is c.called_by_digits.ensures.within

pub clear_leg-requires-in-Err-clause-there : goal.clear_leg-requires-in-Err-clause-there
clear_leg-requires-in-Err-clause-there g c =
    let work = c.requires.work in
    known_there work.0 c.args.self.now.map c.args.self.now.legs work.1 work.4 c.args.held.now c.requires.external c.requires.held

pub clear_leg-requires-in-Err-clause-cause : goal.clear_leg-requires-in-Err-clause-cause
clear_leg-requires-in-Err-clause-cause g c =
    let work = c.requires.work in
    let dialled = c.look_up-dialled.result in
    dialled_small work.0.dimensions work.1 c.args.held.now.slot c.args.message.now dialled.is_readable dialled.target c.in-Err.cause
    (on_err c.called_by_digits.result c.in-Err.cause (λ cause. first_cause (dialled_checks work.0.dimensions work.1 c.args.held.now.slot c.args.message.now dialled.is_readable dialled.target) ≡ Some cause) c.in-Err.is
    (c.called_by_digits.ensures.refused work.0.dimensions work.1 work.4.holds))

pub accept-requires-clause-reference : goal.accept-requires-clause-reference
accept-requires-clause-reference g c =
    let work = c.requires.work in
    (known_there work.0 c.args.self.now.map c.args.self.now.legs work.1 work.4 c.args.held.now c.requires.external c.requires.held).told.reference

pub accept-requires-clause-seats : goal.accept-requires-clause-seats
accept-requires-clause-seats g c room is_room =
    let work = c.requires.work in
    let s = work.0 in
    let w = work.1 in
    let now = c.args.self.now in
    let h = c.args.held.now in
    let m = c.args.message.now in
    let p = c.in-Some.number.now in
    let dialled = c.look_up-dialled.result in
    let right : adds_wrongly p.called m ≡ false = sym c.dialled_on.ensures.none ∙ ap is_none c.in-Some-dialled_on.is in
    let pends = sym c.pending.ensures ∙ ap option_copied c.in-Some.is in
    let same = c.as_slice.ensures.octets ∙ ap (λ (q : Pending). q.called) c.in-Some-dialled_on.ensures.added in
    let passes = digits_refusal_right s c.args.plan.now now.map now.legs w work.2 work.4 h m c.requires.external c.requires.held c.requires.waits p pends c.as_slice.result.now dialled.is_readable dialled.target right same
    c.look_up-dialled.ensures.readable c.look_up-dialled.ensures.target ∙ subst (λ (r : Result CalledSide ℕ). OnOk r (first_cause (dialled_checks s.dimensions w h.slot m dialled.is_readable dialled.target) ≡ None)) c.in-Ok.is
    (c.called_by_digits.ensures.passed s.dimensions w work.4.holds) in
    let side = on_ok c.called_by_digits.result c.in-Ok.called (λ (called : CalledSide). called_side s.dimensions w h.slot dialled.target ≡ Ok called) c.in-Ok.is (c.called_by_digits.ensures.called s.dimensions w work.4.holds) in
    let leads = leads_to_room s.dimensions w h.slot dialled.target room (side ∙ ap (λ called. Ok called) is_room) in
    let found = ap (λ ns. target_dialled ns (called_with p.called m)) work.2 ∙ ap (target_dialled c.args.plan.now) (sym same) ∙ sym c.look_up-dialled.ensures.target ∙ leads in
    (s.dimensions, w, work.4.holds, digits_seat s c.args.plan.now now.map now.legs w work.2 work.4 h m c.requires.external c.requires.held c.requires.waits p pends passes room found)

pub returns-in-Err-clause-makes : goal.returns-in-Err-clause-makes
returns-in-Err-clause-makes g c s w plan tones work =
    let now = c.args.self.now in
    let h = c.args.held.now in
    let m = c.args.message.now in
    let p = c.in-Some.number.now in
    let dialled = c.look_up-dialled.result in
    let cause = c.in-Err.cause in
    let right : adds_wrongly p.called m ≡ false = sym c.dialled_on.ensures.none ∙ ap is_none c.in-Some-dialled_on.is in
    let pends = sym c.pending.ensures ∙ ap option_copied c.in-Some.is in
    let same = c.as_slice.ensures.octets ∙ ap (λ (q : Pending). q.called) c.in-Some-dialled_on.ensures.added in
    let refused = digits_refusal_right s c.args.plan.now now.map now.legs w plan work h m c.requires.external c.requires.held c.requires.waits p pends c.as_slice.result.now dialled.is_readable dialled.target right same
    c.look_up-dialled.ensures.readable c.look_up-dialled.ensures.target ∙ on_err c.called_by_digits.result cause (λ why. first_cause (dialled_checks s.dimensions w h.slot m dialled.is_readable dialled.target) ≡ Some why) c.in-Err.is
    (c.called_by_digits.ensures.refused s.dimensions w work.holds) in
    let clears = digits_clear s c.args.plan.now now.map now.legs w plan work h m c.requires.external c.requires.held c.requires.waits p pends cause refused in
    let done = c.clear_leg-in-Err in
    makes_same s.dimensions done.new.self.map done.new.self.legs done.new.out.sends done.new.out.moved (making_at w)
    (clear_with c.args.tones.now cause h) (on_digits s w h m) (clears ∙ ap (λ (t : Tones). clear_with t cause h) tones)
    (done.ensures.makes s.dimensions (making_at w) (makes_begun s.dimensions now.map now.legs c.args.out.now.sends c.args.out.now.moved w work.holds c.requires.fresh))

pub returns-in-Ok-clause-makes : goal.returns-in-Ok-clause-makes
returns-in-Ok-clause-makes g c s w plan tones work =
    let now = c.args.self.now in
    let h = c.args.held.now in
    let m = c.args.message.now in
    let p = c.in-Some.number.now in
    let more = c.in-Some-dialled_on.number in
    let dialled = c.look_up-dialled.result in
    let called = c.in-Ok.called in
    let right : adds_wrongly p.called m ≡ false = sym c.dialled_on.ensures.none ∙ ap is_none c.in-Some-dialled_on.is in
    let pends = sym c.pending.ensures ∙ ap option_copied c.in-Some.is in
    let same = c.as_slice.ensures.octets ∙ ap (λ (q : Pending). q.called) c.in-Some-dialled_on.ensures.added in
    let passes = digits_refusal_right s c.args.plan.now now.map now.legs w plan work h m c.requires.external c.requires.held c.requires.waits p pends c.as_slice.result.now dialled.is_readable dialled.target right same
    c.look_up-dialled.ensures.readable c.look_up-dialled.ensures.target ∙ subst (λ (r : Result CalledSide ℕ). OnOk r (first_cause (dialled_checks s.dimensions w h.slot m dialled.is_readable dialled.target) ≡ None)) c.in-Ok.is
    (c.called_by_digits.ensures.passed s.dimensions w work.holds) in
    let side = on_ok c.called_by_digits.result called (λ (k : CalledSide). called_side s.dimensions w h.slot dialled.target ≡ Ok k) c.in-Ok.is (c.called_by_digits.ensures.called s.dimensions w work.holds) in
    let found : target_dialled s.plan (called_with p.called m) ≡ dialled.target =
    ap (λ ns. target_dialled ns (called_with p.called m)) plan ∙ ap (target_dialled c.args.plan.now) (sym same) ∙ sym c.look_up-dialled.ensures.target in
    makes_same s.dimensions c.accept.new.self.map c.accept.new.self.legs c.accept.new.out.sends c.accept.new.out.moved (making_at w)
    (accept_side false w h.leg.reference (asked_of c.asked_in.result) h.slot called) (on_digits s w h m)
    (digits_accept s c.args.plan.now now.map now.legs w plan work h m c.requires.external c.requires.held c.requires.waits p pends passes
    ∙ ap (accept false w h.leg.reference (asked_with p m) h.slot) found
    ∙ side_accepts w false h.leg.reference (asked_with p m) h.slot s.dimensions dialled.target called side
    ∙ ap (λ (asked : Pending). accept_side false w h.leg.reference asked h.slot called) (sym (c.asked_in.ensures.asked ∙ c.in-Some-dialled_on.ensures.added)))
    (c.accept.ensures.makes s.dimensions w work.holds)
