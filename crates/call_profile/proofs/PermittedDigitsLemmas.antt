-- What is done for more digits is permitted.
use Rattle.std.proofs.Common.{◌≡◌, ℕ, false, Option, Some, None, refl, sym, subst}
use Rattle.circuit_model.specs.Extent.{IsExternal}
use Rattle.circuit_model.proofs.Validity.{deaf_is_idle}
use Rattle.q931_codec.specs.CallStates.{overlap_sending}
use Rattle.q931_codec.specs.Contents.{dialled_digits}
use Rattle.q931_codec.specs.declared.message.Message.{Message}
use Rattle.number_plan.specs.declared.target.Found.{Found}
use Rattle.call_states.specs.declared.leg.HeldLeg.{HeldLeg}
use Rattle.call_states.specs.declared.pending.Pending.{Pending}
use Rattle.exchange_events.specs.Sizes.{Setting}
use Rattle.exchange_events.specs.Sound.{IsPlanned}
use Rattle.call_profile.specs.Digits.{asked_with, called_with, digits_refusal, dial_on, on_digits}
use Rattle.call_profile.specs.LegStanding.{CallsStand}
use Rattle.call_profile.specs.Legs.{leg_at}
use Rattle.call_profile.specs.Operations.{making_at}
use Rattle.call_profile.specs.Setup.{target_dialled}
use Rattle.call_profile.specs.Waiting.{Waits}
use Rattle.call_profile.specs.World.{World}
use Rattle.call_profile.proofs.CommandLemmas.{count_by-is_member_not_full}
use Rattle.call_profile.proofs.DigitsLemmas.{digits_are, digits_fit, digits_reach, digits_small, number, digits_checks_passed}
use Rattle.call_profile.proofs.Permitted.{ArePermitted}
use Rattle.call_profile.proofs.PermittedActLemmas.{clear_permitted, is_there}
use Rattle.call_profile.proofs.PermittedSetupLemmas.{CanAccept, accepted_permitted, found_for_begun}

module _ (s : Setting) (w : World) (h : HeldLeg) (m : Message) (planned : IsPlanned s) (stands : CallsStand s w) (within : IsExternal s.dimensions.external h.slot)
    (at : leg_at w.legs h.slot ≡ Some h.leg) (is : h.leg.state ≡ overlap_sending) where
  abbrev waits : Waits s w h.slot h.leg
  waits = number s w h m planned stands within at is

  abbrev p : Pending
  p = waits.number

  abbrev target : Found
  target = target_dialled s.plan (called_with p.called m)

  pub can_accept : digits_refusal s w h.slot p.called m ≡ None → CanAccept s w h.leg.reference (asked_with p m) h.slot target
  can_accept passes =
      let reach = digits_reach s w h.slot p m planned passes in
      let fits = digits_fit s w h.slot p m planned passes waits.waiting.fits in
      record {
        within = within;
        small = (stands.legs.each h.slot h.leg within at).reference.1;
        fits = fits;
        line = reach.line;
        lines = reach.lines;
        room = λ room leads. record {
          within = within;
          idle = deaf_is_idle w.holding.circuits h.slot (stands.circuits.standing h.slot) waits.silent;
          free = count_by-is_member_not_full s.dimensions.bridges w.holding stands.circuits (reach.room room leads);
        };
        more = λ more. record {
          state = refl;
          calls = refl;
          alone = refl;
          dialled = found_for_begun s.plan (dialled_digits (called_with p.called m)) (digits_checks_passed s w h.slot p m planned passes).1.0 more;
          fits = fits;
        };
      }

  dialling_permitted : (o : Option ℕ) → digits_refusal s w h.slot p.called m ≡ o → ArePermitted s.dimensions s.tones s.plan (making_at w) (dial_on s w h (asked_with p m) o)
  dialling_permitted (Some cause) refused =
      clear_permitted s.dimensions s.tones s.plan (making_at w) cause h (is_there s.dimensions.external s.tones w h stands.legs within at) (digits_small s w h.slot p.called m cause refused)
  dialling_permitted None passes = accepted_permitted s w false h.leg.reference (asked_with p m) h.slot target (can_accept passes)

  pub digits_permitted : ArePermitted s.dimensions s.tones s.plan (making_at w) (on_digits s w h m)
  digits_permitted =
      subst (ArePermitted s.dimensions s.tones s.plan (making_at w)) (sym (digits_are s w h m planned stands within at is)) (dialling_permitted (digits_refusal s w h.slot p.called m) refl)
