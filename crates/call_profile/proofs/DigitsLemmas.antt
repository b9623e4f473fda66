-- More digits of a number that is dialled in parts: a leg that waits on, is cleared, or whose call is accepted keeps the legs consistent.
use Rattle.std.proofs.Common.{◌≡◌, ℕ, ◌<◌, ◌≤◌, ◌||◌, Bool, true, false, inl, inr, List, length, Option, Some, None, refl, sym, ◌∙◌, ap, subst, arith, length-set}
use Rattle.std.specs.Prelude.{nat_lt}
use Rattle.std.proofs.lemmas.Bool.Decides.{nat_tests}
use Rattle.std.specs.List.{AllByRecursion}
use Rattle.circuit_model.specs.declared.channel.Slot.{Slot}
use Rattle.circuit_model.specs.Circuits.{is_idle}
use Rattle.circuit_model.specs.Extent.{IsExternal}
use Rattle.circuit_model.specs.Holding.{Holding, Clear as Clear_slot, after, Valid}
use Rattle.circuit_model.proofs.Validity.{valid-clear}
use Rattle.control_memory.specs.Layout.{number_of}
use Rattle.q931_codec.specs.CallStates.{overlap_sending}
use Rattle.q931_codec.specs.declared.message.Message.{Message}
use Rattle.call_states.specs.declared.leg.HeldLeg.{HeldLeg}
use Rattle.call_states.specs.declared.leg.Leg.{Leg}
use Rattle.call_states.specs.declared.leg.Peer.TheVariants as peer
use Rattle.call_states.specs.declared.pending.Pending.{Pending}
use Rattle.call_states.specs.Pending.{FitsElements}
use Rattle.tone_rules.specs.declared.tones.Tones.{Tones}
use Rattle.exchange_events.specs.Sizes.{Setting, Dimensions}
use Rattle.exchange_events.specs.Sound.{IsPlanned}
use Rattle.call_profile.specs.Acts.{clear_with, in_disconnect_indication, tone_of}
use Rattle.call_profile.specs.Digits.{has_no_octet, called_with, asked_with, digits_checks, digits_refusal, dial_on, with_pending, on_digits}
use Rattle.call_profile.specs.LegStanding.{CallsStand, LegsStand, LegStands}
use Rattle.call_profile.specs.Legs.{leg_at}
use Rattle.call_profile.specs.Operations.{Operation, begun, making_at, making_after_all}
use Rattle.call_profile.specs.Setup.{Check, is_room_full, target_dialled}
use Rattle.call_profile.specs.Waiting.{Waits}
use Rattle.call_profile.specs.World.{World}
use Rattle.call_profile.proofs.AcceptedSetupLemmas.{small_cause}
use Rattle.call_profile.proofs.BesideLemmas.{Beside, SameReferences, each_stands, leg_at-with_entry_else, leg_at-with_entry_here, named_back, same_or_apart, still_one}
use Rattle.call_profile.proofs.ClearingLemmas.{Kept}
use Rattle.call_profile.proofs.HearingLemmas.{IsStrange, heard_by_clear_keeps}
use Rattle.call_profile.proofs.OneLegClearedLemmas.{disconnected_stands}
use Rattle.call_profile.proofs.SetupLemmas.{CanReach, accepted_kept, all_from, all_pass, all_reached, reached}
use Rattle.call_profile.proofs.ToneLemmas.{cleared_is_idle, heard_by_sounding_keeps, sounding_valid, sounds}
use Rattle.call_profile.proofs.WaitingLegLemmas.{each_waits, waiting_may}

-- ---- a leg that no other is in a call with is cleared

module _ (d : Dimensions) (tones : Tones) (w : World) (h : HeldLeg) (cause : ℕ) (small : cause < 128) (valid : Valid d.bridges w.holding) (stand : LegsStand d.external tones w)
    (within : IsExternal d.external h.slot) (at : leg_at w.legs h.slot ≡ Some h.leg) (no_peer : (p : Slot) → h.leg.peer ≡ peer.Leg p → ⊥) where
  abbrev x : Slot
  x = h.slot

  abbrev new : Leg
  new = begun w (in_disconnect_indication cause h.leg)

  abbrev cleared : Holding
  cleared = after w.holding (Clear_slot x)

  abbrev v : World
  v = (making_after_all d (making_at w) (clear_with tones cause h)).world

  idle_x : is_idle cleared.circuits x ≡ true
  idle_x = cleared_is_idle w.holding x

  -- nobody names it
  strange_x : (z : Slot) (l : Leg) → IsExternal d.external z → leg_at w.legs z ≡ Some l → IsStrange l x
  strange_x z l in_z at_z p names same =
      no_peer z (named_back d.external w.legs z p l h.leg names (stand.each z l in_z at_z).peer (ap (leg_at w.legs) same ∙ at))

  legs_else : (z : Slot) → IsExternal d.external z → (z ≡ x → ⊥) → leg_at v.legs z ≡ leg_at w.legs z
  legs_else z in_z apart = leg_at-with_entry_else d.external w.legs x z (Some new) within in_z apart

  leg_at_here : leg_at v.legs x ≡ Some new
  leg_at_here = leg_at-with_entry_here d.external w.legs x (Some new) stand.count within

  beside_x : Beside d.external w v x x
  beside_x = record {
    legs = λ z in_z apart same. legs_else z in_z apart;
    heard = λ z l in_z at_z apart same.
        heard_by_sounding_keeps cleared x idle_x z apart (tone_of tones new)
        ∙ heard_by_clear_keeps d.bridges tones w.holding l z x valid (stand.each z l in_z at_z).hears apart (strange_x z l in_z at_z);
    strange = λ z l p in_z at_z apart same is. (strange_x z l in_z at_z p is, strange_x z l in_z at_z p is);
  }

  new_stands : LegStands d.external tones v x new
  new_stands = disconnected_stands d.external tones w v x h.leg w.holding.next cause small (stand.each x h.leg within at) (sounds cleared x idle_x tones new (λ e. absurd cc))

  stands_x : (l : Leg) → leg_at v.legs x ≡ Some l → LegStands d.external tones v x l
  stands_x l is = let e : Some new ≡ Some l = sym leg_at_here ∙ is in let same : new ≡ l = cc in subst (LegStands d.external tones v x) same new_stands

  references : SameReferences d.external w v
  references z b in_z at_z = elim (same_or_apart z x) [
    | inl is_x ↦
        let e : Some new ≡ Some b = sym leg_at_here ∙ sym (ap (leg_at v.legs) is_x) ∙ at_z in
        let same : new ≡ b = cc in
        (h.leg, ap (leg_at w.legs) is_x ∙ at, ap (λ (l : Leg). l.side) same, ap (λ (l : Leg). l.reference) same)
    | inr apart ↦ (b, sym (legs_else z in_z apart) ∙ at_z, refl, refl)
  ]

  pub uncoupled_kept : Kept d tones (making_after_all d (making_at w) (clear_with tones cause h)).world
  uncoupled_kept = (
    sounding_valid cleared x idle_x d.bridges (valid-clear d.bridges w.holding x valid) (tone_of tones new),
    record {
      count = length-set w.legs.held (number_of x) (Some new) ∙ stand.count;
      each = each_stands d.external tones w v x x beside_x stand stands_x stands_x;
      one = still_one d.external tones w v references stand;
    },
  )

pub cleared_kept : (d : Dimensions) (tones : Tones) (w : World) (h : HeldLeg) (cause : ℕ) → cause < 128 → Valid d.bridges w.holding → LegsStand d.external tones w
    → IsExternal d.external h.slot → leg_at w.legs h.slot ≡ Some h.leg → h.leg.peer ≡ peer.Alone → Kept d tones (making_after_all d (making_at w) (clear_with tones cause h)).world
cleared_kept d tones w h cause small valid stand within at alone =
    uncoupled_kept d tones w h cause small valid stand within at (λ p same. let wrong : peer.Alone ≡ peer.Leg p = sym alone ∙ same in cc)

-- ---- what the checks give

right_false : (a b : Bool) → (a || b) ≡ false → b ≡ false
right_false true b e = absurd cc
right_false false b e = e

not_long : (n : ℕ) → nat_lt 21 n ≡ false → n ≤ 21
not_long n e = grind (arith, nat_tests, e)

pub digits_small : (s : Setting) (w : World) (x : Slot) (called : List ℕ) (m : Message) (cause : ℕ) → digits_refusal s w x called m ≡ Some cause → cause < 128
digits_small s w x called m cause e = small_cause (digits_checks s w x called m) cause (omega arith, (omega arith, (omega arith, (omega arith, (omega arith, (omega arith, (omega arith, tt))))))) e

module _ (s : Setting) (w : World) (x : Slot) (p : Pending) (m : Message) (planned : IsPlanned s) (passes : digits_refusal s w x p.called m ≡ None) where
  pub digits_checks_passed : AllByRecursion (λ (c : Check). c.0 ≡ false) (digits_checks s w x p.called m)
  digits_checks_passed = all_pass (digits_checks s w x p.called m) passes

  pub digits_fit : FitsElements p → FitsElements (asked_with p m)
  digits_fit fits = record {
    bearer = fits.bearer;
    calling = fits.calling;
    called = not_long (length (called_with p.called m)) (right_false (has_no_octet _) (nat_lt 21 (length (called_with p.called m))) digits_checks_passed.0);
    low = fits.low;
    high = fits.high;
  }

  pub digits_reach : CanReach s w (target_dialled s.plan (called_with p.called m))
  digits_reach = record {
    line = λ l is. reached s (called_with p.called m) l planned is;
    lines = λ ls are. all_reached s (called_with p.called m) ls planned are;
    room = λ room is. sym (ap (is_room_full s.dimensions w) is) ∙ (all_from 6 (digits_checks s w x p.called m) digits_checks_passed).0;
  }

-- ---- what is done

module _ (s : Setting) (w : World) (h : HeldLeg) (m : Message) (planned : IsPlanned s) (stands : CallsStand s w) (within : IsExternal s.dimensions.external h.slot)
    (at : leg_at w.legs h.slot ≡ Some h.leg) (is : h.leg.state ≡ overlap_sending) where
  pub number : Waits s w h.slot h.leg
  number = each_waits s w stands h.slot h.leg within at is

  pub digits_are : on_digits s w h m ≡ dial_on s w h (asked_with number.number m) (digits_refusal s w h.slot number.number.called m)
  digits_are = ap (with_pending s w h m) number.pends

  dialling_kept : (o : Option ℕ) → digits_refusal s w h.slot number.number.called m ≡ o → Kept s.dimensions s.tones (making_after_all s.dimensions (making_at w) (dial_on s w h (asked_with number.number m) o)).world
  dialling_kept (Some cause) refused =
      cleared_kept s.dimensions s.tones w h cause (digits_small s w h.slot number.number.called m cause refused) stands.circuits stands.legs within at number.waiting.alone
  dialling_kept None passes =
      accepted_kept s w false h.leg.reference (asked_with number.number m) h.slot (waiting_may s w h.slot h.leg stands within at is) (target_dialled s.plan (called_with number.number.called m))
      (digits_reach s w h.slot number.number m planned passes)

  pub digits_kept : Kept s.dimensions s.tones (making_after_all s.dimensions (making_at w) (on_digits s w h m)).world
  digits_kept =
      subst (λ (os : List Operation). Kept s.dimensions s.tones (making_after_all s.dimensions (making_at w) os).world) (sym digits_are)
      (dialling_kept (digits_refusal s w h.slot number.number.called m) refl)
