-- A leg is disconnected with a cause, and the other leg of its call, if there is one, with another: the legs stay
-- consistent.
use Rattle.std.proofs.Common.{◌≡◌, ℕ, ◌<◌, ◌++◌, Some, refl, sym, ◌∙◌, ap}
use Rattle.std.specs.Prelude.{slice_set}
use Rattle.circuit_model.specs.Extent.{IsExternal}
use Rattle.circuit_model.specs.Holding.{Clear, after, Valid}
use Rattle.control_memory.specs.Layout.{number_of}
use Rattle.call_states.specs.declared.leg.HeldLeg.{HeldLeg}
use Rattle.call_states.specs.declared.leg.Peer.{Peer}
use Rattle.call_states.specs.declared.leg.Peer.TheVariants as peer
use Rattle.tone_rules.specs.declared.tones.Tones.{Tones}
use Rattle.call_profile.specs.Acts.{in_disconnect_indication, tone_of, peer_of, with_peer, clear_with}
use Rattle.call_profile.specs.LegStanding.{LegsStand, HasPeer}
use Rattle.call_profile.specs.Legs.{leg_at, waiting_from, with_entry}
use Rattle.call_profile.specs.Operations.{Making, begun, making_after_all}
use Rattle.exchange_events.specs.Sizes.{Dimensions}
use Rattle.call_profile.specs.World.{World}
use Rattle.call_profile.proofs.BothDisconnectedLemmas.{both_valid, both_disconnected}
use Rattle.call_profile.proofs.ClearingLemmas.{Kept, held_there, peers_of}
use Rattle.call_profile.proofs.DigitsLemmas.{uncoupled_kept}
use Rattle.call_profile.proofs.ToneLemmas.{with_tone_sounding_next}

module _ (d : Dimensions) (tones : Tones) (m : Making) (h : HeldLeg) (cause also : ℕ) (small : cause < 128) (small_too : also < 128) (valid : Valid d.bridges m.world.holding)
    (stand : LegsStand d.external tones m.world) (within : IsExternal d.external h.slot) (at : leg_at m.world.legs h.slot ≡ Some h.leg) where
  abbrev w : World
  w = m.world

  abbrev pub DisconnectsWell : Peer → Type 0
  DisconnectsWell p = Kept d tones (making_after_all d m (clear_with tones cause h ++ with_peer (peer_of w.legs p) (clear_with tones also))).world

  pub disconnected_by : (p : Peer) → h.leg.peer ≡ p → HasPeer d.external w.legs h.slot h.leg p → DisconnectsWell p
  disconnected_by peer.Alone is has = uncoupled_kept d tones w h cause small valid stand within at (λ p same. let wrong : peer.Alone ≡ peer.Leg p = sym is ∙ same in cc)
  disconnected_by (peer.Leg y) is has =
      let other = has.1.0 in
      let peers = peers_of d.external w h.slot y h.leg other within has.0 at has.1.1 has.1.2 in
      let v : World = (making_after_all d m (clear_with tones cause h ++ clear_with tones also (record { slot = y; leg = other }))).world in
      rw (held_there w.legs y other has.1.1) (
        both_valid d.external tones d.bridges w v h.slot y h.leg other cause also small small_too valid stand peers,
        both_disconnected d.external tones d.bridges w v h.slot y h.leg other cause also small small_too valid stand peers (ap (λ next. slice_set (with_entry w.legs h.slot (Some (begun w (in_disconnect_indication cause h.leg)))).held (number_of y) (Some (waiting_from next (in_disconnect_indication also other)))) (with_tone_sounding_next (after w.holding (Clear h.slot)) h.slot (tone_of tones (in_disconnect_indication cause h.leg)))) refl,
      )
  disconnected_by (peer.Room room) is has = uncoupled_kept d tones w h cause small valid stand within at (λ p same. let wrong : peer.Room room ≡ peer.Leg p = sym is ∙ same in cc)

  pub call_disconnected : DisconnectsWell h.leg.peer
  call_disconnected = disconnected_by h.leg.peer refl (stand.each h.slot h.leg within at).peer
