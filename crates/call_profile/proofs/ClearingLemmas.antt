-- The acts that begin to clear a call keep the legs consistent.
use Rattle.std.proofs.Common.{◌≡◌, ℕ, ◌<◌, inl, inr, Option, Some, None, refl, sym, ◌∙◌, ap, subst}
use Rattle.std.specs.Prelude.{slice_set}
use Rattle.circuit_model.specs.declared.channel.Slot.{Slot}
use Rattle.circuit_model.specs.Extent.{IsExternal}
use Rattle.circuit_model.specs.Holding.{Holding, Clear as Clear_slot, after, Valid}
use Rattle.circuit_model.proofs.Validity.{valid-clear}
use Rattle.control_memory.specs.Layout.{number_of}
use Rattle.q931_codec.specs.declared.message.Message.{Message}
use Rattle.call_states.specs.declared.condition.Condition.TheVariants.{Idle}
use Rattle.call_states.specs.declared.act.Act.TheVariants as act
use Rattle.call_states.specs.declared.leg.Leg.{Leg}
use Rattle.call_states.specs.declared.leg.Peer.{Peer}
use Rattle.call_states.specs.declared.leg.Peer.TheVariants as peer
use Rattle.call_states.specs.declared.leg.Side.{Side}
use Rattle.call_states.specs.declared.leg.Side.TheVariants.{Caller, Called}
use Rattle.tone_rules.specs.declared.tones.Tones.{Tones}
use Rattle.call_states.specs.declared.leg.HeldLeg.{HeldLeg}
use Rattle.call_profile.specs.ActCourse.{course_of}
use Rattle.call_profile.specs.Acts.{in_release_request, in_disconnect_indication, tone_of, peer_of, with_peer, clear_with, on_disconnect, on_release, remove_leg}
use Rattle.call_profile.specs.Calls.{making_by}
use Rattle.call_profile.specs.LegStanding.{LegsStand, HasPeer, IsInCall}
use Rattle.call_profile.specs.Legs.{Legs, waiting_from, leg_at, held_at, with_entry}
use Rattle.call_profile.specs.Operations.{Making, begun, making_at, making_after_all, with_tone}
use Rattle.exchange_events.specs.Sizes.{Setting, Dimensions}
use Rattle.call_profile.specs.World.{World}
use Rattle.call_profile.proofs.BesideLemmas.{peer_there, peer_back}
use Rattle.call_profile.proofs.OneLegClearedLemmas.{IsLeft, LegsStand_alone_left}
use Rattle.call_profile.proofs.BothLegsClearedLemmas.{both_cleared}
use Rattle.call_profile.proofs.TwoEntriesLemmas.{ArePeers}
use Rattle.call_profile.proofs.ToneLemmas.{cleared_is_idle, sounding_valid}

-- what a message is to keep: each slot is in one state, and the legs are consistent
abbrev pub Kept : Dimensions → Tones → World → Type 0
Kept d tones w = Valid d.bridges w.holding × LegsStand d.external tones w

pub held_there : (legs : Legs) (y : Slot) (other : Leg) → leg_at legs y ≡ Some other → held_at legs y ≡ Some (record { slot = y; leg = other })
held_there legs y other e = rw e refl

-- the two legs of a call are of different sides, so no leg has its own slot for its peer
sides_differ : (side : Side) (x y : Slot) (leg other : Leg) → IsInCall side x leg y other → leg.side ≡ other.side → ⊥
sides_differ Caller x y leg other call same = let sides : Caller ≡ Called = sym call.calls ∙ same ∙ call.is_called in cc
sides_differ Called x y leg other call same = let sides : Caller ≡ Called = sym call.calls ∙ sym same ∙ call.is_called in cc

pub peers_apart : (legs : Legs) (x y : Slot) (leg other : Leg) → leg_at legs x ≡ Some leg → leg_at legs y ≡ Some other → IsInCall leg.side x leg y other → y ≡ x → ⊥
peers_apart legs x y leg other at_x at_y call same =
    let e : Some leg ≡ Some other = sym at_x ∙ ap (leg_at legs) (sym same) ∙ at_y in
    let legs_same : leg ≡ other = cc in
    sides_differ leg.side x y leg other call (ap (λ (l : Leg). l.side) legs_same)

pub peers_of : (external : ℕ) (w : World) (x y : Slot) (leg other : Leg) → IsExternal external x → IsExternal external y → leg_at w.legs x ≡ Some leg → leg_at w.legs y ≡ Some other
    → IsInCall leg.side x leg y other → ArePeers external w x y leg other
peers_of external w x y leg other in_x in_y at_x at_y call = record {
  in_x = in_x;
  in_y = in_y;
  apart = peers_apart w.legs x y leg other at_x at_y call;
  at_x = at_x;
  at_y = at_y;
  there = peer_there leg.side x y leg other call;
  back = peer_back leg.side x y leg other call;
}

-- ---- once the leg's slot is cleared, and the leg waits for its release or is gone, its peer is cleared

module _ (d : Dimensions) (tones : Tones) (w : World) (x : Slot) (leg : Leg) (o : Option Leg) (cause : ℕ) (small : cause < 128) (valid : Valid d.bridges w.holding) (stand : LegsStand d.external tones w)
    (within : IsExternal d.external x) (at : leg_at w.legs x ≡ Some leg) (left : IsLeft w.holding.next leg o)
    (m : Making) (legs : m.world.legs.held ≡ (with_entry w.legs x o).held) (holding : m.world.holding ≡ after w.holding (Clear_slot x)) where
  valid_left : Valid d.bridges m.world.holding
  valid_left = subst (Valid d.bridges) (sym holding) (valid-clear d.bridges w.holding x valid)

  pub alone_kept : ((p : Slot) → leg.peer ≡ peer.Leg p → ⊥) → Kept d tones m.world
  alone_kept no_peer = (valid_left, LegsStand_alone_left d.external tones d.bridges w m.world x leg o valid stand within at left legs holding no_peer)

  pub both_kept : (y : Slot) (other : Leg) → IsExternal d.external y → leg_at w.legs y ≡ Some other → IsInCall leg.side x leg y other
      → Kept d tones (making_after_all d m (clear_with tones cause (record { slot = y; leg = other }))).world
  both_kept y other in_y at_y call = (
    sounding_valid (after m.world.holding (Clear_slot y)) y (cleared_is_idle m.world.holding y) d.bridges (valid-clear d.bridges m.world.holding y valid_left)
        (tone_of tones (in_disconnect_indication cause other)),
    both_cleared d.external tones d.bridges w (making_after_all d m (clear_with tones cause (record { slot = y; leg = other }))).world x y leg other o cause small valid stand
        (peers_of d.external w x y leg other within in_y at at_y call) left
        (λ i. slice_set (legs i) (number_of y) (Some (waiting_from (holding i).next (in_disconnect_indication cause other))))
        (ap (λ (h : Holding). with_tone (after h (Clear_slot y)) y (tone_of tones (in_disconnect_indication cause other))) holding),
  )

  peer_kept : (p : Peer) → leg.peer ≡ p → HasPeer d.external w.legs x leg p → Kept d tones (making_after_all d m (with_peer (peer_of w.legs p) (clear_with tones cause))).world
  peer_kept peer.Alone is has = alone_kept (λ p same. let e : peer.Alone ≡ peer.Leg p = sym is ∙ same in cc)
  peer_kept (peer.Leg y) is has = rw (held_there w.legs y has.1.0 has.1.1) (both_kept y has.1.0 has.0 has.1.1 has.1.2)
  peer_kept (peer.Room room) is has = alone_kept (λ p same. let e : peer.Room room ≡ peer.Leg p = sym is ∙ same in cc)

  pub clearing_kept : Kept d tones (making_after_all d m (with_peer (peer_of w.legs leg.peer) (clear_with tones cause))).world
  clearing_kept = peer_kept leg.peer refl (stand.each x leg within at).peer

-- ---- the three acts

module _ (s : Setting) (w : World) (h : HeldLeg) (m : Message) (cause : ℕ) (small : cause < 128) (valid : Valid s.dimensions.bridges w.holding) (stand : LegsStand s.dimensions.external s.tones w)
    (within : IsExternal s.dimensions.external h.slot) (at : leg_at w.legs h.slot ≡ Some h.leg) where
  pub disconnect_kept : Kept s.dimensions s.tones (making_by s w (course_of s w h m (act.Disconnect cause))).world
  disconnect_kept = clearing_kept s.dimensions s.tones w h.slot h.leg (Some (begun w (in_release_request h.leg))) cause small valid stand within at (inr refl) (making_after_all s.dimensions (making_at w) (on_disconnect h)) refl refl

  pub released_kept : Kept s.dimensions s.tones (making_by s w (course_of s w h m (act.Release cause))).world
  released_kept = clearing_kept s.dimensions s.tones w h.slot h.leg None cause small valid stand within at (inl refl) (making_after_all s.dimensions (making_at w) (on_release h)) refl refl

  pub gone_kept : Kept s.dimensions s.tones (making_by s w (course_of s w h m (act.ReleaseComplete cause))).world
  gone_kept = clearing_kept s.dimensions s.tones w h.slot h.leg None cause small valid stand within at (inl refl) (making_after_all s.dimensions (making_at w) (remove_leg Idle h)) refl refl
