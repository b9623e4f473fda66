-- Nails, seats, frees and frames keep the legs consistent.
use Rattle.std.proofs.Common.{◌≡◌, ℕ, ◌*◌, ◌<◌, inl, inr, Bool, true, false, ◌&&◌, ◌==◌, length, Option, Some, None, refl, sym, ◌∙◌, ap, subst, arith}
use Rattle.std.specs.Prelude.{is_none, not, count_by}
use Rattle.std.proofs.lemmas.Grind.{common_steps}
use Rattle.circuit_model.specs.declared.channel.Slot.{Slot}
use Rattle.circuit_model.specs.Circuits.{heard_by, is_idle, is_member}
use Rattle.circuit_model.specs.Extent.{IsExternal}
use Rattle.circuit_model.specs.Holding.{Holding, Connect, Seat as Take_seat, Clear as Clear_slot, Valid}
use Rattle.circuit_model.proofs.Slots.{true_or_false}
use Rattle.circuit_model.proofs.Validity.{valid-clear, valid-connect, valid-seat, valid-frame}
use Rattle.call_states.specs.declared.leg.Leg.{Leg}
use Rattle.tone_rules.specs.declared.tones.Tones.{Tones}
use Rattle.exchange_events.specs.declared.trace.Event.TheVariants.{Nail, Seat, Free}
use Rattle.exchange_events.specs.Sizes.{Setting, Dimensions}
use Rattle.call_profile.specs.Step.{may_nail, may_seat, next}
use Rattle.circuit_model.specs.FrameInput.{Input}
use Rattle.call_profile.specs.IdleSlots.{idle, is_nailed}
use Rattle.call_profile.specs.LegStanding.{LegStands, LegsStand, HasPeer, MayHear}
use Rattle.call_profile.specs.Legs.{Legs, leg_at}
use Rattle.exchange_events.specs.Sound.{Fits}
use Rattle.call_profile.specs.World.{World, obey, is_full, pass}
use Rattle.call_profile.proofs.HearingLemmas.{IsStrange, heard_by_clear_keeps, heard_by_connect_keeps, heard_by_seat_keeps}
use Rattle.call_profile.proofs.ClearingLemmas.{Kept}

-- ---- slots that no leg holds

pub both_true : (a b : Bool) → (a && b) ≡ true → (a ≡ true) × (b ≡ true)
both_true true b e = (refl, e)
both_true false b e = absurd cc

pub not_true : (b : Bool) → not b ≡ true → b ≡ false
not_true true e = absurd cc
not_true false e = refl

pub is_empty : (o : Option Leg) → is_none o ≡ true → o ≡ None
is_empty None e = refl
is_empty (Some leg) e = absurd cc

-- a leg is at another slot than one that none holds
pub not_empty : (legs : Legs) (x z : Slot) (l : Leg) → leg_at legs x ≡ None → leg_at legs z ≡ Some l → z ≡ x → ⊥
not_empty legs x z l none at same = let e : Some l ≡ None = sym at ∙ ap (leg_at legs) same ∙ none in cc

-- and names another one as its peer's
pub strange_to_empty : (external : ℕ) (tones : Tones) (w : World) (x : Slot) → LegsStand external tones w → leg_at w.legs x ≡ None
    → (z : Slot) (l : Leg) → IsExternal external z → leg_at w.legs z ≡ Some l → IsStrange l x
strange_to_empty external tones w x stand none z l in_z at_z p is same =
    let has = subst (HasPeer external w.legs z l) is (stand.each z l in_z at_z).peer in
    not_empty w.legs x p has.1.0 none has.1.1 same

pub count_by-is_member_not_full : (bridges : ℕ) (h : Holding) → Valid bridges h → (count_by is_member h.circuits == 30 * bridges) ≡ false → count_by is_member h.circuits < 30 * bridges
count_by-is_member_not_full bridges h valid other = let most = valid.seated in grind (arith, common_steps, other, most)

-- ---- circuits change, and each leg hears what it heard

module _ (external : ℕ) (tones : Tones) (w v : World) (same : v.legs ≡ w.legs) (stand : LegsStand external tones w)
    (heard : (z : Slot) (l : Leg) → IsExternal external z → leg_at w.legs z ≡ Some l → heard_by v.holding.circuits z ≡ heard_by w.holding.circuits z) where
  leg_stands : (z : Slot) (l : Leg) → IsExternal external z → leg_at v.legs z ≡ Some l → LegStands external tones v z l
  leg_stands z l in_z at_z =
      let before : leg_at w.legs z ≡ Some l = sym (ap (λ (ls : Legs). leg_at ls z) same) ∙ at_z in
      let old = stand.each z l in_z before in
      record {
        state = old.state;
        reference = old.reference;
        cause = old.cause;
        peer = subst (λ (ls : Legs). HasPeer external ls z l l.peer) (sym same) old.peer;
        hears = subst (MayHear tones l) (sym (heard z l in_z before)) old.hears;
      }

  pub still_stand : LegsStand external tones v
  still_stand = record {
    count = ap (λ (ls : Legs). length ls.held) same ∙ stand.count;
    each = leg_stands;
    one = λ x y a b in_x in_y at_x at_y. stand.one x y a b in_x in_y (sym (ap (λ (ls : Legs). leg_at ls x) same) ∙ at_x) (sym (ap (λ (ls : Legs). leg_at ls y) same) ∙ at_y);
  }

module _ (d : Dimensions) (tones : Tones) (w : World) (valid : Valid d.bridges w.holding) (stand : LegsStand d.external tones w) where
  connected_kept : (x y : Slot) → (x ≡ y → ⊥) → idle w x ≡ true → idle w y ≡ true → Kept d tones (obey d w (Connect x y))
  connected_kept x y apart idle_x idle_y =
      let at_x = both_true (is_idle w.holding.circuits x) (is_none (leg_at w.legs x)) idle_x in
      let at_y = both_true (is_idle w.holding.circuits y) (is_none (leg_at w.legs y)) idle_y in (
        valid-connect d.bridges w.holding x y valid apart at_x.0 at_y.0,
        still_stand d.external tones w (obey d w (Connect x y)) refl stand (λ z l in_z at_z.
            heard_by_connect_keeps w.holding x y z at_x.0 at_y.0
            (not_empty w.legs x z l (is_empty (leg_at w.legs x) at_x.1) at_z)
            (not_empty w.legs y z l (is_empty (leg_at w.legs y) at_y.1) at_z)),
      )

  seated_kept : (x : Slot) (room : ℕ) → idle w x ≡ true → is_full d w ≡ false → Kept d tones (obey d w (Take_seat x room))
  seated_kept x room idle_x free =
      let at_x = both_true (is_idle w.holding.circuits x) (is_none (leg_at w.legs x)) idle_x in (
        valid-seat d.bridges w.holding x room valid at_x.0 (count_by-is_member_not_full d.bridges w.holding valid free),
        still_stand d.external tones w (obey d w (Take_seat x room)) refl stand (λ z l in_z at_z.
            heard_by_seat_keeps w.holding x z room at_x.0 (not_empty w.legs x z l (is_empty (leg_at w.legs x) at_x.1) at_z)),
      )

  freed_kept : (x : Slot) → is_nailed w x ≡ true → Kept d tones (obey d w (Clear_slot x))
  freed_kept x nailed_x =
      let none = is_empty (leg_at w.legs x) (both_true (not (is_idle w.holding.circuits x)) (is_none (leg_at w.legs x)) nailed_x).1 in (
        valid-clear d.bridges w.holding x valid,
        still_stand d.external tones w (obey d w (Clear_slot x)) refl stand (λ z l in_z at_z.
            heard_by_clear_keeps d.bridges tones w.holding l z x valid (stand.each z l in_z at_z).hears
            (not_empty w.legs x z l none at_z)
            (strange_to_empty d.external tones w x stand none z l in_z at_z)),
      )

module _ (s : Setting) (w : World) (valid : Valid s.dimensions.bridges w.holding) (stand : LegsStand s.dimensions.external s.tones w) where
  pub nail_kept : (x y : Slot) → Fits s.dimensions.external (Nail x y) → Kept s.dimensions s.tones (next s w (Nail x y))
  nail_kept x y fits = elim (true_or_false (may_nail w x y)) [
    | inl may ↦ let both = both_true (idle w x) (idle w y) may in rw may (connected_kept s.dimensions s.tones w valid stand x y fits.distinct both.0 both.1)
    | inr not_now ↦ rw not_now (valid, stand)
  ]

  pub seat_kept : (x : Slot) (room : ℕ) → Fits s.dimensions.external (Seat x room) → Kept s.dimensions s.tones (next s w (Seat x room))
  seat_kept x room fits = elim (true_or_false (may_seat s.dimensions w x)) [
    | inl may ↦
        let both = both_true (idle w x) (not (is_full s.dimensions w)) may in
        rw may (seated_kept s.dimensions s.tones w valid stand x room both.0 (not_true (is_full s.dimensions w) both.1))
    | inr not_now ↦ rw not_now (valid, stand)
  ]

  pub free_kept : (x : Slot) → Fits s.dimensions.external (Free x) → Kept s.dimensions s.tones (next s w (Free x))
  free_kept x fits = elim (true_or_false (is_nailed w x)) [
    | inl may ↦ rw may (freed_kept s.dimensions s.tones w valid stand x may)
    | inr not_now ↦ rw not_now (valid, stand)
  ]

  pub pass_kept : (input : Input) → Kept s.dimensions s.tones (pass w input)
  pass_kept input = (
    valid-frame s.dimensions.bridges w.holding valid,
    still_stand s.dimensions.external s.tones w (pass w input) refl stand (λ z l in_z at_z. refl),
  )
