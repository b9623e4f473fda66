-- An accepted SETUP keeps the legs consistent.
use Rattle.std.proofs.Common.{◌≡◌, ℕ, ◌*◌, ◌^◌, ◌<◌, ◌≤◌, inl, inr, Bool, true, false, length, Some, None, refl, sym, ◌∙◌, ap, subst, arith, length-set}
use Rattle.std.specs.Prelude.{is_none}
use Rattle.circuit_model.specs.declared.channel.Slot.{Slot}
use Rattle.circuit_model.specs.declared.circuit.Circuit.TheVariants.{Member}
use Rattle.circuit_model.specs.Circuits.{heard_by, is_idle}
use Rattle.circuit_model.specs.Extent.{IsExternal}
use Rattle.circuit_model.specs.Holding.{Valid}
use Rattle.circuit_model.proofs.Hearing.{heard_by-one}
use Rattle.circuit_model.proofs.Slots.{same_slot-refl, heard_by_idle_is_deaf}
use Rattle.circuit_model.proofs.Validity.{valid-seat, deaf_is_idle}
use Rattle.control_memory.specs.Layout.{number_of}
use Rattle.call_states.specs.declared.pending.Pending.{Pending}
use Rattle.q931_codec.specs.CallStates.{overlap_sending, outgoing_call_proceeding}
use Rattle.call_states.specs.declared.leg.Leg.{Leg}
use Rattle.call_states.specs.declared.leg.Peer.TheVariants as peer
use Rattle.call_states.specs.declared.leg.Side.TheVariants.{Caller, Called}
use Rattle.tone_rules.specs.declared.tones.Tones.{Tones}
use Rattle.call_profile.specs.IdleSlots.{idle}
use Rattle.call_profile.specs.LegStanding.{LegStands, LegsStand, MayHear, AreOneCall}
use Rattle.call_profile.specs.Legs.{Legs, is_down, leg_at, leg_named, with_entry}
use Rattle.call_profile.specs.Operations.{Making, Wait, begun, making_at, making_after, making_after_all}
use Rattle.call_profile.specs.Setup.{caller_leg, called_leg, call_line, call_room, await_digits}
use Rattle.exchange_events.specs.Sizes.{Dimensions}
use Rattle.call_profile.specs.World.{World, is_full}
use Rattle.call_profile.proofs.AnsweredLegLemmas.{answered_from, joined, making_joined, room_leg}
use Rattle.call_profile.proofs.BesideLemmas.{leg_at-with_entry_here, leg_at-with_entry_else, same_or_apart, Beside, each_stands}
use Rattle.call_profile.proofs.HearingLemmas.{IsStrange, heard_by_seat_keeps}
use Rattle.call_profile.proofs.ClearingLemmas.{Kept}
use Rattle.call_profile.proofs.CommandLemmas.{both_true, is_empty, count_by-is_member_not_full, strange_to_empty}
use Rattle.call_profile.proofs.VacantSlotLemmas.{none_named}
use Rattle.call_profile.proofs.LegTableLemmas.{length-with_entry_both, leg_at_both_else, leg_at_both_first, leg_at_both_second}

-- ---- one leg a call reference, once there is a new leg

-- no two legs of a line and a side have one call reference
abbrev Distinct : ℕ → Legs → Type 0
Distinct external legs = (x y : Slot) (a b : Leg) → IsExternal external x → IsExternal external y → leg_at legs x ≡ Some a → leg_at legs y ≡ Some b
    → x.line ≡ y.line → a.side ≡ b.side → a.reference ≡ b.reference → x ≡ y

-- no leg of the line and the side of a new one has its reference
abbrev HasNone : ℕ → Legs → Slot → Leg → Type 0
HasNone external legs x new = (z : Slot) (l : Leg) → IsExternal external z → (z ≡ x → ⊥) → leg_at legs z ≡ Some l → z.line ≡ x.line → l.side ≡ new.side → l.reference ≡ new.reference → ⊥

module _ (external : ℕ) (legs : Legs) (x : Slot) (new : Leg) (size : length legs.held ≡ 30 * external) (in_x : IsExternal external x) where
  here_is : (z : Slot) (l : Leg) → z ≡ x → leg_at (with_entry legs x (Some new)) z ≡ Some l → l ≡ new
  here_is z l is at =
      let e : Some l ≡ Some new = sym at ∙ ap (leg_at (with_entry legs x (Some new))) is ∙ leg_at-with_entry_here external legs x (Some new) size in_x in
      cc

  leg_at_else : (z : Slot) (l : Leg) → IsExternal external z → (z ≡ x → ⊥) → leg_at (with_entry legs x (Some new)) z ≡ Some l → leg_at legs z ≡ Some l
  leg_at_else z l in_z apart at = sym (leg_at-with_entry_else external legs x z (Some new) in_x in_z apart) ∙ at

  distinct_with : Distinct external legs → HasNone external legs x new → Distinct external (with_entry legs x (Some new))
  distinct_with distinct none p q a b in_p in_q at_p at_q line side reference = elim (same_or_apart p x) [
    | inl p_is ↦ elim (same_or_apart q x) [
      | inl q_is ↦ p_is ∙ sym q_is
      | inr q_not ↦
          let new_is = here_is p a p_is at_p in
          absurd (none q b in_q q_not (leg_at_else q b in_q q_not at_q)
          (sym line ∙ ap (λ (z : Slot). z.line) p_is)
          (sym side ∙ ap (λ (l : Leg). l.side) new_is)
          (sym reference ∙ ap (λ (l : Leg). l.reference) new_is))
    ]
    | inr p_not ↦ elim (same_or_apart q x) [
      | inl q_is ↦
          let new_is = here_is q b q_is at_q in
          absurd (none p a in_p p_not (leg_at_else p a in_p p_not at_p)
          (line ∙ ap (λ (z : Slot). z.line) q_is)
          (side ∙ ap (λ (l : Leg). l.side) new_is)
          (reference ∙ ap (λ (l : Leg). l.reference) new_is))
      | inr q_not ↦ distinct p q a b in_p in_q (leg_at_else p a in_p p_not at_p) (leg_at_else q b in_q q_not at_q) line side reference
    ]
  ]

-- ---- a call to a line

-- what is needed of the caller's slot before a call is accepted: it hears nothing, no leg names it as its peer, and no other leg of its line and
-- side has the caller's call reference. So it is for an idle slot, and for one whose leg waits for the rest of its number
pub record MayCall (d : Dimensions) (tones : Tones) (w : World) (own : ℕ) (x : Slot) : Type 0 where
  pub valid : Valid d.bridges w.holding
  pub stand : LegsStand d.external tones w
  pub in_x : IsExternal d.external x
  pub silent : heard_by w.holding.circuits x ≡ None
  pub strange : (z : Slot) (l : Leg) → IsExternal d.external z → leg_at w.legs z ≡ Some l → IsStrange l x
  pub small : (1 ≤ own) × (own < 2 ^ 15)
  pub unused : (z : Slot) (l : Leg) → IsExternal d.external z → (z ≡ x → ⊥) → leg_at w.legs z ≡ Some l → z.line ≡ x.line → l.side ≡ Caller → l.reference ≡ own → ⊥

-- and of the called slot, and the new reference
pub record MayOffer (d : Dimensions) (w : World) (x y : Slot) (reference : ℕ) : Type 0 where
  pub in_y : IsExternal d.external y
  pub apart : y ≡ x → ⊥
  pub idle_y : idle w y ≡ true
  pub small : (1 ≤ reference) × (reference < 2 ^ 15)
  pub free : leg_named w.legs y.line true reference ≡ None

module _ (w : World) (x : Slot) (idle_x : idle w x ≡ true) where
  pub heard_by_silent_slot : heard_by w.holding.circuits x ≡ None
  heard_by_silent_slot = heard_by_idle_is_deaf w.holding.circuits x (both_true (is_idle w.holding.circuits x) (is_none (leg_at w.legs x)) idle_x).0

  pub leg_at_empty_slot : leg_at w.legs x ≡ None
  leg_at_empty_slot = is_empty (leg_at w.legs x) (both_true (is_idle w.holding.circuits x) (is_none (leg_at w.legs x)) idle_x).1

pub idle_may : (d : Dimensions) (tones : Tones) (w : World) (own : ℕ) (x : Slot) → Valid d.bridges w.holding → LegsStand d.external tones w → IsExternal d.external x → idle w x ≡ true
    → (1 ≤ own) × (own < 2 ^ 15) → leg_named w.legs x.line false own ≡ None → MayCall d tones w own x
idle_may d tones w own x valid stand in_x idle_x small unused = record {
  valid = valid;
  stand = stand;
  in_x = in_x;
  silent = heard_by_silent_slot w x idle_x;
  strange = strange_to_empty d.external tones w x stand (leg_at_empty_slot w x idle_x);
  small = small;
  unused = λ z l in_z apart at line side same. none_named w.legs x.line false own unused z l (line, in_z.1) at side same;
}

module _ (d : Dimensions) (tones : Tones) (w : World) (first : Bool) (own : ℕ) (asked : Pending) (x y : Slot) (reference : ℕ) (may : MayCall d tones w own x) (offer : MayOffer d w x y reference) where
  abbrev caller : Leg
  caller = begun w (caller_leg outgoing_call_proceeding own (peer.Leg y))

  abbrev called : Leg
  called = begun w (called_leg reference x)

  abbrev after_call : World
  after_call = (making_after_all d (making_at w) (call_line first own asked x y reference)).world

  at_caller : leg_at after_call.legs x ≡ Some caller
  at_caller = leg_at_both_first d.external w.legs x y (Some caller) (Some called) may.stand.count may.in_x offer.in_y offer.apart

  at_called : leg_at after_call.legs y ≡ Some called
  at_called = leg_at_both_second d.external w.legs x y (Some caller) (Some called) may.stand.count may.in_x offer.in_y offer.apart

  one_call : AreOneCall x caller y called
  one_call = record { calls = refl; is_called = refl; there = refl; back = refl; matched = refl }

  caller_stands : LegStands d.external tones after_call x caller
  caller_stands = record {
    state = refl;
    reference = may.small;
    cause = omega arith;
    peer = (offer.in_y, (called, at_called, one_call));
    hears = subst (MayHear tones caller) (sym may.silent) (λ e. absurd cc, refl);
  }

  called_stands : LegStands d.external tones after_call y called
  called_stands = record {
    state = refl;
    reference = offer.small;
    cause = omega arith;
    peer = (may.in_x, (caller, at_caller, one_call));
    hears = subst (MayHear tones called) (sym (heard_by_silent_slot w y offer.idle_y)) (λ e. absurd cc, refl);
  }

  beside_call : Beside d.external w after_call x y
  beside_call = record {
    legs = leg_at_both_else d.external w.legs x y (Some caller) (Some called) may.stand.count may.in_x offer.in_y offer.apart;
    heard = λ z l in_z at_z not_x not_y. refl;
    strange = λ z l p in_z at_z not_x not_y is. (
      may.strange z l in_z at_z p is,
      strange_to_empty d.external tones w y may.stand (leg_at_empty_slot w y offer.idle_y) z l in_z at_z p is,
    );
  }

  at_x : (l : Leg) → leg_at after_call.legs x ≡ Some l → LegStands d.external tones after_call x l
  at_x l is = let e : Some caller ≡ Some l = sym at_caller ∙ is in let same : caller ≡ l = cc in subst (LegStands d.external tones after_call x) same caller_stands

  at_y : (l : Leg) → leg_at after_call.legs y ≡ Some l → LegStands d.external tones after_call y l
  at_y l is = let e : Some called ≡ Some l = sym at_called ∙ is in let same : called ≡ l = cc in subst (LegStands d.external tones after_call y) same called_stands

  none_caller : HasNone d.external w.legs x caller
  none_caller = may.unused

  -- the caller's new leg is of the other side
  none_called : HasNone d.external (with_entry w.legs x (Some caller)) y called
  none_called z l in_z apart at line side same = elim (same_or_apart z x) [
    | inl is ↦
        let new_is = here_is d.external w.legs x caller may.stand.count may.in_x z l is at in
        let sides : Caller ≡ Called = sym (ap (λ (k : Leg). k.side) new_is) ∙ side in
        cc
    | inr other ↦ none_named w.legs y.line true reference offer.free z l (line, in_z.1) (leg_at_else d.external w.legs x caller may.stand.count may.in_x z l in_z other at) side same
  ]

  pub line_call_kept : Kept d tones (making_after_all d (making_at w) (call_line first own asked x y reference)).world
  line_call_kept = (
    may.valid,
    record {
      count = length-with_entry_both d.external w.legs x y (Some caller) (Some called) may.stand.count may.in_x offer.in_y offer.apart;
      each = each_stands d.external tones w after_call x y beside_call may.stand at_x at_y;
      one = distinct_with d.external (with_entry w.legs x (Some caller)) y called (length-set w.legs.held (number_of x) (Some caller) ∙ may.stand.count) offer.in_y
          (distinct_with d.external w.legs x caller may.stand.count may.in_x may.stand.one none_caller) none_called;
    },
  )

-- ---- a call to a room

module _ (d : Dimensions) (tones : Tones) (w : World) (first : Bool) (own : ℕ) (x : Slot) (room : ℕ) (may : MayCall d tones w own x) (free : is_full d w ≡ false) where
  abbrev member : Leg
  member = answered_from (is_down w.legs x.line) w.holding.next (room_leg own room)

  abbrev after_seat : World
  after_seat = (joined d w first own x room).world

  at_member : leg_at after_seat.legs x ≡ Some member
  at_member = leg_at-with_entry_here d.external w.legs x (Some member) may.stand.count may.in_x

  idle_member : is_idle w.holding.circuits x ≡ true
  idle_member = deaf_is_idle w.holding.circuits x (may.valid.standing x) may.silent

  heard_member : heard_by after_seat.holding.circuits x ≡ Some (Member room x w.holding.next)
  heard_member = heard_by-one w.holding.circuits (Member room x w.holding.next) x idle_member ∙ rw (same_slot-refl x) refl

  member_stands : LegStands d.external tones after_seat x member
  member_stands = record {
    state = refl;
    reference = may.small;
    cause = omega arith;
    peer = (refl, refl);
    hears = subst (MayHear tones member) (sym heard_member) (refl, refl);
  }

  beside_seat : Beside d.external w after_seat x x
  beside_seat = record {
    legs = λ z in_z not_x same. leg_at-with_entry_else d.external w.legs x z (Some member) may.in_x in_z not_x;
    heard = λ z l in_z at_z not_x same. heard_by_seat_keeps w.holding x z room idle_member not_x;
    strange = λ z l p in_z at_z not_x same is.
        let strange = may.strange z l in_z at_z p is in
        (strange, strange);
  }

  seated_leg : (l : Leg) → leg_at after_seat.legs x ≡ Some l → LegStands d.external tones after_seat x l
  seated_leg l is = let e : Some member ≡ Some l = sym at_member ∙ is in let same : member ≡ l = cc in subst (LegStands d.external tones after_seat x) same member_stands

  none_member : HasNone d.external w.legs x member
  none_member = may.unused

  joined_kept : Kept d tones after_seat
  joined_kept = (
    valid-seat d.bridges w.holding x room may.valid idle_member (count_by-is_member_not_full d.bridges w.holding may.valid free),
    record {
      count = length-set w.legs.held (number_of x) (Some member) ∙ may.stand.count;
      each = each_stands d.external tones w after_seat x x beside_seat may.stand seated_leg seated_leg;
      one = distinct_with d.external w.legs x member may.stand.count may.in_x may.stand.one none_member;
    },
  )

  pub room_call_kept : Kept d tones (making_after_all d (making_at w) (call_room first w.legs own x room)).world
  room_call_kept = subst (λ (m : Making). Kept d tones m.world) (sym (making_joined d w first own x room)) joined_kept

-- ---- a call whose number isn't complete

module _ (d : Dimensions) (tones : Tones) (w : World) (own : ℕ) (asked : Pending) (x : Slot) (may : MayCall d tones w own x) where
  abbrev waiting : Leg
  waiting = begun w (caller_leg overlap_sending own peer.Alone)

  abbrev after_wait : World
  after_wait = (making_after d (making_at w) (Wait x (caller_leg overlap_sending own peer.Alone) asked)).world

  at_waiting : leg_at after_wait.legs x ≡ Some waiting
  at_waiting = leg_at-with_entry_here d.external w.legs x (Some waiting) may.stand.count may.in_x

  waiting_stands : LegStands d.external tones after_wait x waiting
  waiting_stands = record {
    state = refl;
    reference = may.small;
    cause = omega arith;
    peer = refl;
    hears = subst (MayHear tones waiting) (sym may.silent) (λ e. absurd cc, refl);
  }

  beside_wait : Beside d.external w after_wait x x
  beside_wait = record {
    legs = λ z in_z not_x same. leg_at-with_entry_else d.external w.legs x z (Some waiting) may.in_x in_z not_x;
    heard = λ z l in_z at_z not_x same. refl;
    strange = λ z l p in_z at_z not_x same is.
        let strange = may.strange z l in_z at_z p is in
        (strange, strange);
  }

  waiting_leg : (l : Leg) → leg_at after_wait.legs x ≡ Some l → LegStands d.external tones after_wait x l
  waiting_leg l is = let e : Some waiting ≡ Some l = sym at_waiting ∙ is in let same : waiting ≡ l = cc in subst (LegStands d.external tones after_wait x) same waiting_stands

  none_waiting : HasNone d.external w.legs x waiting
  none_waiting = may.unused

  wait_kept : Kept d tones after_wait
  wait_kept = (
    may.valid,
    record {
      count = length-set w.legs.held (number_of x) (Some waiting) ∙ may.stand.count;
      each = each_stands d.external tones w after_wait x x beside_wait may.stand waiting_leg waiting_leg;
      one = distinct_with d.external w.legs x waiting may.stand.count may.in_x may.stand.one none_waiting;
    },
  )

  -- whether it is asked for the rest of the number or not
  pub waiting_kept : (first : Bool) → Kept d tones (making_after_all d (making_at w) (await_digits first own asked x)).world
  waiting_kept true = wait_kept
  waiting_kept false = wait_kept
