-- Whatever a message asks for, each operation that is done for it is permitted.
use Rattle.std.proofs.Common.{◌≡◌, ℕ, ◌<◌, List, sym, subst, eqb-true}
use Rattle.circuit_model.specs.Extent.{IsExternal}
use Rattle.q931_codec.specs.CallStates.{overlap_sending}
use Rattle.clearing_rules.specs.UnknownReference.{answer_without_call}
use Rattle.q931_codec.specs.declared.message.Message.{Message as Q931}
use Rattle.q931_codec.specs.Reading.{reading}
use Rattle.q931_codec.proofs.Messages.{read_message}
use Rattle.exchange_events.specs.declared.trace.Event.TheVariants.{Message}
use Rattle.call_states.specs.Acts.{act_on}
use Rattle.call_states.specs.declared.leg.HeldLeg.{HeldLeg}
use Rattle.call_profile.specs.ActCourse.{course_of}
use Rattle.call_profile.specs.Calls.{For_leg, New_call, On_no_call, request_of, answer_back}
use Rattle.call_profile.specs.LegStanding.{CallsStand}
use Rattle.call_profile.specs.Operations.{making_at}
use Rattle.call_profile.proofs.Permitted.{ArePermitted}
use Rattle.exchange_events.specs.Sizes.{Setting}
use Rattle.call_profile.specs.Setup.{course_of_setup}
use Rattle.exchange_events.specs.Sound.{Fits, IsPlanned}
use Rattle.call_profile.specs.World.{World}
use Rattle.call_profile.proofs.PermittedActLemmas.{act_permitted}
use Rattle.call_profile.proofs.OctetLemmas.{octets_small}
use Rattle.clearing_rules.proofs.AnswerFacts.{answer_writable}
use Rattle.call_profile.proofs.NoCallAnswerLemmas.{back_permitted}
use Rattle.call_profile.proofs.NamedLegLemmas.{received_stands}
use Rattle.call_profile.proofs.PermittedSetupLemmas.{setup_permitted}
use Rattle.call_profile.proofs.PermittedDigitsLemmas.{digits_permitted}
use Rattle.call_profile.proofs.SetupLemmas.{new_from, no_call_read}

module _ (s : Setting) (w : World) (line : ℕ) (octets : List ℕ) (planned : IsPlanned s) (fits : Fits s.dimensions.external (Message line octets)) (stands : CallsStand s w) where
  pub act_may : (h : HeldLeg) (m : Q931) → request_of w.legs line octets ≡ For_leg h m → ArePermitted s.dimensions s.tones s.plan (making_at w) (course_of s w h m (act_on h.leg.state m)).operations
  act_may h m is =
      let named = received_stands w.legs line octets h m is in
      let on = named.among in
      let within : IsExternal s.dimensions.external h.slot = (subst (λ n. n < s.dimensions.external) (sym on.0) fits.0, on.1) in
      act_permitted s w h stands within named.at m (λ waits. digits_permitted s w h m planned stands within named.at (eqb-true h.leg.state overlap_sending waits))

  pub call_may : (m : Q931) → request_of w.legs line octets ≡ New_call m → ArePermitted s.dimensions s.tones s.plan (making_at w) (course_of_setup s w line m).operations
  call_may m is =
      let new = new_from w.legs line (reading octets) m is in
      let message = read_message octets m (octets_small octets fits.1) new.0 in
      setup_permitted s w line m planned stands fits.0 (new.1, message.value) new.2

  pub answer_may : (m : Q931) → request_of w.legs line octets ≡ On_no_call m → ArePermitted s.dimensions s.tones s.plan (making_at w) (answer_back line (answer_without_call m))
  answer_may m is =
      let read = no_call_read w.legs line (reading octets) m is in
      let message = read_message octets m (octets_small octets fits.1) read in
      back_permitted s.dimensions s.tones s.plan (making_at w) line fits.0 (answer_without_call m) (answer_writable m message.value)
