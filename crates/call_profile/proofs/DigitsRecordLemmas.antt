-- More digits end no call: of a leg that waits for the rest of its number there is no call yet.
use Rattle.std.proofs.Common.{◌≡◌, ℕ, ◌&&◌, Bool, true, false, [], Option, Some, None, refl, sym, ◌∙◌, ap, subst, List}
use Rattle.circuit_model.specs.Extent.{IsExternal}
use Rattle.q931_codec.specs.CallStates.{overlap_sending}
use Rattle.q931_codec.specs.declared.message.Message.{Message}
use Rattle.call_states.specs.declared.leg.HeldLeg.{HeldLeg}
use Rattle.call_states.specs.declared.leg.Leg.{Leg}
use Rattle.exchange_events.specs.Sizes.{Setting}
use Rattle.exchange_events.specs.Sound.{IsPlanned}
use Rattle.call_profile.specs.Acts.{clear_with, in_disconnect_indication}
use Rattle.call_profile.specs.CallRecords.{is_calling, records}
use Rattle.call_profile.specs.Digits.{asked_with, called_with, digits_refusal, dial_on, on_digits}
use Rattle.call_profile.specs.LegStanding.{CallsStand}
use Rattle.call_profile.specs.Legs.{leg_at}
use Rattle.call_profile.specs.Operations.{Operation, begun, making_at, making_after_all}
use Rattle.call_profile.specs.Setup.{target_dialled}
use Rattle.call_profile.specs.World.{World}
use Rattle.call_profile.proofs.BesideLemmas.{leg_at-with_entry_else}
use Rattle.call_profile.proofs.DigitsLemmas.{digits_are, number, digits_reach}
use Rattle.call_profile.proofs.EndedCallLemmas.{no_record_where_kept}
use Rattle.call_profile.proofs.SetupRecordLemmas.{records_accepted_ends, not_there}

and_false : (b : Bool) → (b && false) ≡ false
and_false true = refl
and_false false = refl

waits_silent : (leg : Leg) → leg.state ≡ overlap_sending → is_calling (Some leg) ≡ false
waits_silent leg is = rw is (and_false _)

module _ (s : Setting) (w : World) (h : HeldLeg) (m : Message) (planned : IsPlanned s) (stands : CallsStand s w) (within : IsExternal s.dimensions.external h.slot)
    (at : leg_at w.legs h.slot ≡ Some h.leg) (is : h.leg.state ≡ overlap_sending) where
  is_calling_silent : is_calling (leg_at w.legs h.slot) ≡ false
  is_calling_silent = ap is_calling at ∙ waits_silent h.leg is

  records_clearing_ends : (cause : ℕ) → records w (making_after_all s.dimensions (making_at w) (clear_with s.tones cause h)).world 0 ≡ []
  records_clearing_ends cause =
      no_record_where_kept s.dimensions.external w (making_after_all s.dimensions (making_at w) (clear_with s.tones cause h)).world 0 stands.legs.count
      (λ z leg in_z at_z calls.
      leg_at-with_entry_else s.dimensions.external w.legs h.slot z (Some (begun w (in_disconnect_indication cause h.leg))) within in_z (not_there w.legs h.slot z leg is_calling_silent at_z calls) ∙ at_z)

  abbrev called : List ℕ
  called = (number s w h m planned stands within at is).number.called

  records_dialling_ends : (o : Option ℕ) → digits_refusal s w h.slot called m ≡ o
      → records w (making_after_all s.dimensions (making_at w) (dial_on s w h (asked_with (number s w h m planned stands within at is).number m) o)).world 0 ≡ []
  records_dialling_ends (Some cause) refused = records_clearing_ends cause
  records_dialling_ends None passes =
      let reach = digits_reach s w h.slot (number s w h m planned stands within at is).number m planned passes in
      records_accepted_ends s w false h.leg.reference (asked_with (number s w h m planned stands within at is).number m) h.slot stands.legs.count within is_calling_silent (target_dialled s.plan (called_with called m))
      (reach.line, reach.lines)

  pub records_digits_end_none : records w (making_after_all s.dimensions (making_at w) (on_digits s w h m)).world 0 ≡ []
  records_digits_end_none =
      subst (λ (os : List Operation). records w (making_after_all s.dimensions (making_at w) os).world 0 ≡ []) (sym (digits_are s w h m planned stands within at is))
      (records_dialling_ends (digits_refusal s w h.slot called m) refl)
