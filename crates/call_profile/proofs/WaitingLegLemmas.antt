-- What holds of a leg in overlap sending.
use Rattle.std.proofs.Common.{◌≡◌, false, Option, Some, None, refl, sym, ◌∙◌, ap, subst, arith, inl, inr}
use Rattle.std.specs.Prelude.{◌==◌}
use Rattle.std.proofs.lemmas.Grind.{common_steps}
use Rattle.circuit_model.specs.declared.channel.Slot.{Slot}
use Rattle.circuit_model.specs.declared.circuit.Circuit.{Circuit}
use Rattle.circuit_model.specs.declared.circuit.Circuit.TheVariants.{Pair, Member, Tone}
use Rattle.circuit_model.specs.Circuits.{heard_by}
use Rattle.circuit_model.specs.Extent.{IsExternal}
use Rattle.q931_codec.specs.CallStates.{overlap_sending, call_delivered, disconnect_indication}
use Rattle.call_states.specs.declared.leg.Leg.{Leg}
use Rattle.call_states.specs.declared.pending.Pending.{Pending}
use Rattle.tone_rules.specs.declared.tones.Tones.{Tones}
use Rattle.exchange_events.specs.Sizes.{Setting}
use Rattle.call_profile.specs.LegStanding.{CallsStand, MayHear}
use Rattle.call_profile.specs.Legs.{leg_at, pending_at}
use Rattle.call_profile.specs.Waiting.{MayWait, Waits, EachWaits, NoneElsePends}
use Rattle.call_profile.specs.World.{World}
use Rattle.call_states.specs.declared.leg.Peer.TheVariants as peer
use Rattle.call_profile.proofs.BesideLemmas.{named_back}
use Rattle.call_profile.proofs.HearingLemmas.{IsStrange}
use Rattle.call_profile.proofs.NewCallLemmas.{MayCall}
use Rattle.call_profile.proofs.ToneLemmas.{no_tone}

silent_in_overlap : (tones : Tones) (leg : Leg) (o : Option Circuit) → leg.state ≡ overlap_sending → MayHear tones leg o → o ≡ None
silent_in_overlap tones leg None is may = refl
silent_in_overlap tones leg (Some (Tone kind to since)) is may =
    let not_four : (leg.state == call_delivered) ≡ false = grind (arith, common_steps, is) in
    let not_twelve : (leg.state == disconnect_indication) ≡ false = grind (arith, common_steps, is) in
    let none = no_tone tones leg not_four not_twelve in
    elim may [
      | inl sounds ↦ let wrong : None ≡ Some kind = sym none ∙ sounds in absurd cc
      | inr left ↦ let is_left = left.0 in absurd (grind (arith, common_steps, is, is_left))
    ]
silent_in_overlap tones leg (Some (Pair from to since)) is may = absurd (grind (arith, common_steps, is, may.0))
silent_in_overlap tones leg (Some (Member room at since)) is may = absurd (grind (arith, common_steps, is, may.0))

module _ (s : Setting) (w : World) (x : Slot) where
  waits_by : (leg : Leg) (q : Option Pending) → pending_at w.legs x ≡ q → MayWait s.plan (Some leg) q → leg.state ≡ overlap_sending → heard_by w.holding.circuits x ≡ None → Waits s w x leg
  waits_by leg None at may is silent = absurd (may is)
  waits_by leg (Some p) at may is silent = record { number = p; pends = at; waiting = may; silent = silent }

  holds_by : (p : Pending) (o : Option Leg) → leg_at w.legs x ≡ o → MayWait s.plan o (Some p) → (leg : Leg) × (leg_at w.legs x ≡ Some leg) × (leg.state ≡ overlap_sending)
  holds_by p None at may = absurd may
  holds_by p (Some leg) at may = (leg, at, may.state)

pub each_waits : (s : Setting) (w : World) → CallsStand s w → EachWaits s w
each_waits s w stands x leg in_x at is =
    let may = subst (λ (o : Option Leg). MayWait s.plan o (pending_at w.legs x)) at (stands.numbers.each x in_x) in
    waits_by s w x leg (pending_at w.legs x) refl may is (silent_in_overlap s.tones leg (heard_by w.holding.circuits x) is (stands.legs.each x leg in_x at).hears)

pub none_else : (s : Setting) (w : World) → CallsStand s w → NoneElsePends s w
none_else s w stands x p in_x at =
    let may = subst (λ (q : Option Pending). MayWait s.plan (leg_at w.legs x) q) at (stands.numbers.each x in_x) in
    holds_by s w x p (leg_at w.legs x) refl may

-- ---- what is needed to accept its call holds of its slot

module _ (s : Setting) (w : World) (x : Slot) (leg : Leg) (stands : CallsStand s w) (in_x : IsExternal s.dimensions.external x) (at : leg_at w.legs x ≡ Some leg) (is : leg.state ≡ overlap_sending) where
  waits : Waits s w x leg
  waits = each_waits s w stands x leg in_x at is

  -- nobody names a leg that is alone
  unnamed : (z : Slot) (l : Leg) → IsExternal s.dimensions.external z → leg_at w.legs z ≡ Some l → IsStrange l x
  unnamed z l in_z at_z p names same =
      let back = named_back s.dimensions.external w.legs z p l leg names (stands.legs.each z l in_z at_z).peer (ap (leg_at w.legs) same ∙ at) in
      let wrong : peer.Alone ≡ peer.Leg z = sym waits.waiting.alone ∙ back in
      cc

  pub waiting_may : MayCall s.dimensions s.tones w leg.reference x
  waiting_may = record {
    valid = stands.circuits;
    stand = stands.legs;
    in_x = in_x;
    silent = waits.silent;
    strange = unnamed;
    small = (stands.legs.each x leg in_x at).reference;
    unused = λ z l in_z apart at_z line side same. apart (stands.legs.one z x l leg in_z in_x at_z at line (side ∙ sym waits.waiting.calls) same);
  }
