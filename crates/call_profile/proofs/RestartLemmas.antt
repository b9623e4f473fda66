-- A restart keeps the legs consistent, slot by slot.
use Rattle.std.proofs.Common.{◌≡◌, ℕ, ◌*◌, ◌<◌, ◌≤◌, Bool, true, false, List, [], ◌∷◌, inl, inr, length, Option, Some, None, refl, sym, ◌∙◌, ap, arith, length-set}
use Rattle.std.specs.Prelude.{filter, not, option_map, option_and_then}
use Rattle.std.specs.List.{cons_option}
use Rattle.circuit_model.specs.declared.channel.Slot.{Slot}
use Rattle.circuit_model.specs.declared.circuit.Circuit.{Circuit}
use Rattle.circuit_model.specs.Circuits.{names}
use Rattle.circuit_model.specs.Extent.{IsExternal}
use Rattle.circuit_model.specs.Holding.{Holding, Clear as Clear_slot, after}
use Rattle.circuit_model.proofs.Slots.{true_or_false}
use Rattle.control_memory.specs.Layout.{number_of}
use Rattle.q931_codec.specs.Outgoing.{IsWritable}
use Rattle.q931_codec.specs.Causes.{temporary_failure}
use Rattle.q931_codec.specs.RestartClasses.{indicated_channels}
use Rattle.q931_codec.specs.declared.kind.MessageKind.TheVariants as kind
use Rattle.q931_codec.proofs.Writable.{short_writable}
use Rattle.circuit_model.specs.Channels.{channel_at}
use Rattle.call_states.specs.declared.condition.Condition.TheVariants.{Idle}
use Rattle.call_states.specs.declared.condition.Condition.{Condition}
use Rattle.call_states.specs.declared.leg.Leg.{Leg}
use Rattle.call_states.specs.declared.leg.Peer.{Peer}
use Rattle.call_states.specs.declared.leg.Peer.TheVariants as peer
use Rattle.clearing_rules.specs.declared.scope.Restart.{Restart}
use Rattle.clearing_rules.specs.Restarting.{is_restarted, acknowledgement, restart_of, global_call_reference, IsOnLine}
use Rattle.clearing_rules.specs.declared.scope.Restart.TheVariants.{Channel, Interface}
use Rattle.tone_rules.specs.declared.tones.Tones.{Tones}
use Rattle.call_states.specs.declared.leg.HeldLeg.{HeldLeg}
use Rattle.number_plan.specs.declared.plan.Number.{Number}
use Rattle.call_profile.specs.Acts.{in_disconnect_indication, peer_of, with_peer, clear_with, remove_leg}
use Rattle.call_profile.specs.CallRecords.{records}
use Rattle.call_profile.specs.EndedCalls.{caller_in, record_calling, record_ended, slot_records}
use Rattle.call_profile.specs.LegStanding.{HasPeer, IsInCall}
use Rattle.call_profile.specs.Legs.{Legs, leg_at}
use Rattle.call_profile.specs.Operations.{Operation, Making, begun, making_after_all}
use Rattle.call_profile.specs.Peers.{PeerIsThere}
use Rattle.call_profile.proofs.Permitted.{ArePermitted}
use Rattle.call_profile.specs.Restarts.{restarts_slot, restart_peer, restart_leg, restart_slot, outcome_below, restart_rule}
use Rattle.exchange_events.specs.Sizes.{Dimensions}
use Rattle.call_profile.specs.World.{World}
use Rattle.call_profile.proofs.PermittedActLemmas.{clear_permitted, peer_there_too}
use Rattle.call_profile.proofs.RestartedSlotLemmas.{each_below}
use Rattle.call_profile.proofs.BesideLemmas.{leg_at-with_entry_here, entry_twice}
use Rattle.call_profile.proofs.OneLegClearedLemmas.{LegsStand_alone_left}
use Rattle.call_profile.proofs.ClearingLemmas.{Kept, held_there, peers_apart, alone_kept, both_kept}
use Rattle.call_profile.proofs.RecordOfActLemmas.{alone_records, both_records, disconnected_silent}
use Rattle.call_profile.proofs.RefusalLemmas.{no_records}
use Rattle.call_profile.proofs.PermittedSetupLemmas.{is_bearer_channel_bears}

-- ---- a slot that is cleared twice

filter_twice : (p : Circuit → Bool) (xs : List Circuit) → filter p (filter p xs) ≡ filter p xs
filter_twice p [] = refl
filter_twice p (x ∷ xs) = elim (true_or_false (p x)) [
  | inl passes ↦ rw (passes, passes) (ap (λ (ys : List Circuit). x ∷ ys) (filter_twice p xs))
  | inr fails ↦ rw fails (filter_twice p xs)
]

cleared_twice : (h : Holding) (y : Slot) → after (after h (Clear_slot y)) (Clear_slot y) ≡ after h (Clear_slot y)
cleared_twice h y = ap (λ (circuits : List Circuit). let cleared : Holding = record { circuits = circuits; next = h.next } in cleared) (filter_twice (λ c. not (names y c)) h.circuits)

-- ---- a leg whose slot is restarted

module _ (d : Dimensions) (tones : Tones) (r : Restart) (cause : ℕ) (condition : Condition) (small : cause < 128) (m : Making) (x : Slot) (leg : Leg) (kept : Kept d tones m.world) (within : IsExternal d.external x) (at : leg_at m.world.legs x ≡ Some leg) where
  abbrev held : HeldLeg
  held = record { slot = x; leg = leg }

  abbrev gone : Making
  gone = making_after_all d m (remove_leg condition held)

  -- with the other leg of its call, which is gone too
  abbrev both_gone : Slot → Leg → World
  both_gone y other = (making_after_all d gone (remove_leg condition (record { slot = y; leg = other }))).world

  gone_kept : (y : Slot) (other : Leg) → IsExternal d.external y → leg_at m.world.legs y ≡ Some other → IsInCall leg.side x leg y other → Kept d tones (both_gone y other)
  gone_kept y other in_y at_y call =
      let waits : World = (making_after_all d gone (clear_with tones temporary_failure (record { slot = y; leg = other }))).world in
      let stands = both_kept d tones m.world x leg None temporary_failure (omega arith) kept.0 kept.1 within at (inl refl) gone refl refl y other in_y at_y call in
      let size : length gone.world.legs.held ≡ 30 * d.external = length-set m.world.legs.held (number_of x) None ∙ kept.1.count in
      let there : leg_at waits.legs y ≡ Some (begun m.world (in_disconnect_indication temporary_failure other)) = leg_at-with_entry_here d.external gone.world.legs y (Some (begun m.world (in_disconnect_indication temporary_failure other))) size in_y in (
        stands.0,
        LegsStand_alone_left d.external tones d.bridges waits (both_gone y other) y (begun m.world (in_disconnect_indication temporary_failure other)) None stands.0 stands.1 in_y there (inl refl)
            (ap (λ (ls : Legs). ls.held) (sym (entry_twice gone.world.legs y (Some (begun m.world (in_disconnect_indication temporary_failure other))) None)))
            (sym (cleared_twice gone.world.holding y))
            (λ p is. cc),
      )

  peer_kept : (p : Peer) → leg.peer ≡ p → HasPeer d.external m.world.legs x leg p → Kept d tones (making_after_all d gone (with_peer (peer_of m.world.legs p) (restart_peer tones cause condition r x.line))).world
  peer_kept peer.Alone is has = alone_kept d tones m.world x leg None cause small kept.0 kept.1 within at (inl refl) gone refl refl (λ p same. let e : peer.Alone ≡ peer.Leg p = sym is ∙ same in cc)
  peer_kept (peer.Leg y) is has = rw (held_there m.world.legs y has.1.0 has.1.1) (elim (true_or_false (restarts_slot r x.line y)) [
    | inl too ↦ rw too (gone_kept y has.1.0 has.0 has.1.1 has.1.2)
    | inr not_so ↦ rw not_so (both_kept d tones m.world x leg None cause small kept.0 kept.1 within at (inl refl) gone refl refl y has.1.0 has.0 has.1.1 has.1.2)
  ])
  peer_kept (peer.Room room) is has = alone_kept d tones m.world x leg None cause small kept.0 kept.1 within at (inl refl) gone refl refl (λ p same. let e : peer.Room room ≡ peer.Leg p = sym is ∙ same in cc)

  pub leg_kept : Kept d tones (making_after_all d m (restart_leg tones cause condition r m.world.legs (Some held))).world
  leg_kept = peer_kept leg.peer refl (kept.1.each x leg within at).peer

  -- its call is recorded, where its clearing hadn't begun
  records_told_by : (p : Peer) → leg.peer ≡ p → HasPeer d.external m.world.legs x leg p
      → records m.world (making_after_all d gone (with_peer (peer_of m.world.legs p) (restart_peer tones cause condition r x.line))).world cause
      ≡ cons_option (option_and_then (record_calling m.world cause) (caller_in leg.side held (peer_of m.world.legs p))) []
  records_told_by peer.Alone is has = alone_records d tones m.world x leg None cause kept.1 within at refl gone refl leg.side refl
  records_told_by (peer.Leg y) is has =
      let other = has.1.0 in
      let apart = peers_apart m.world.legs x y leg other at has.1.1 has.1.2 in
      rw (held_there m.world.legs y other has.1.1) (elim (true_or_false (restarts_slot r x.line y)) [
        | inl too ↦ rw too (both_records d tones m.world x leg None cause kept.1 within at refl gone refl
            (both_gone y other) y other None has.0 has.1.1 apart refl refl leg.side refl has.1.2)
        | inr not_so ↦ rw not_so (both_records d tones m.world x leg None cause kept.1 within at refl gone refl
            (making_after_all d gone (clear_with tones cause (record { slot = y; leg = other }))).world y other (Some (begun m.world (in_disconnect_indication cause other))) has.0 has.1.1 apart
            (disconnected_silent m.world.holding.next cause other) refl leg.side refl has.1.2)
      ])
  records_told_by (peer.Room room) is has = alone_records d tones m.world x leg None cause kept.1 within at refl gone refl leg.side refl

  pub records_leg_told : records m.world (making_after_all d m (restart_leg tones cause condition r m.world.legs (Some held))).world cause ≡ cons_option (record_ended m.world held cause) []
  records_leg_told = records_told_by leg.peer refl (kept.1.each x leg within at).peer

  -- and each operation is permitted
  permitted_by : (plan : List Number) (o : Option HeldLeg) → PeerIsThere d.external held o → ArePermitted d tones plan gone (with_peer o (restart_peer tones cause condition r x.line))
  permitted_by plan None there = tt
  permitted_by plan (Some other) there = elim (true_or_false (restarts_slot r x.line other.slot)) [
    | inl too ↦ rw too (there.0.within, (there.0.within, tt))
    | inr not_so ↦ rw not_so (clear_permitted d tones plan gone cause other there.0 small)
  ]

  pub leg_permitted : (plan : List Number) → ArePermitted d tones plan m (restart_leg tones cause condition r m.world.legs (Some held))
  leg_permitted plan = (within, (within, permitted_by plan (peer_of m.world.legs leg.peer) (peer_there_too d.external tones m.world held kept.1 within at)))

-- ---- a slot

-- what holds where nothing is done, and where a leg that holds the slot is gone, holds of what is done at the slot
module _ (tones : Tones) (r : Restart) (legs : Legs) (x : Slot) (P : List Operation → Type 0) (none : P [])
    (some : (leg : Leg) → leg_at legs x ≡ Some leg → P (restart_leg tones temporary_failure Idle r legs (Some (record { slot = x; leg = leg })))) where
  held_by : (o : Option Leg) → leg_at legs x ≡ o → P (restart_leg tones temporary_failure Idle r legs (option_map (λ (leg : Leg). let h : HeldLeg = record { slot = x; leg = leg } in h) o))
  held_by None at = none
  held_by (Some leg) at = some leg at

  pub at_slot : P (restart_slot tones r legs x)
  at_slot = elim (true_or_false (is_restarted r x.place)) [
    | inl restarted ↦ rw restarted (held_by (leg_at legs x) refl)
    | inr not_so ↦ rw not_so none
  ]

module _ (d : Dimensions) (tones : Tones) (r : Restart) (m : Making) (x : Slot) (kept : Kept d tones m.world) (within : IsExternal d.external x) where
  pub slot_kept : Kept d tones (making_after_all d m (restart_slot tones r m.world.legs x)).world
  slot_kept = at_slot tones r m.world.legs x (λ os. Kept d tones (making_after_all d m os).world) kept (λ leg at. leg_kept d tones r temporary_failure Idle (omega arith) m x leg kept within at)

  pub slot_permitted : (plan : List Number) → ArePermitted d tones plan m (restart_slot tones r m.world.legs x)
  slot_permitted plan = at_slot tones r m.world.legs x (ArePermitted d tones plan m) tt (λ leg at. leg_permitted d tones r temporary_failure Idle (omega arith) m x leg kept within at plan)

  records_told_of : (o : Option Leg) → leg_at m.world.legs x ≡ o
      → records m.world (making_after_all d m (restart_leg tones temporary_failure Idle r m.world.legs (option_map (λ (leg : Leg). let h : HeldLeg = record { slot = x; leg = leg } in h) o))).world temporary_failure
      ≡ cons_option (option_and_then (λ h. record_ended m.world h temporary_failure) (option_map (λ (leg : Leg). let h : HeldLeg = record { slot = x; leg = leg } in h) o)) []
  records_told_of None at = no_records m.world temporary_failure
  records_told_of (Some leg) at = records_leg_told d tones r temporary_failure Idle (omega arith) m x leg kept within at

  pub records_slot_told : records m.world (making_after_all d m (restart_slot tones r m.world.legs x)).world temporary_failure ≡ slot_records r m.world x
  records_slot_told = elim (true_or_false (is_restarted r x.place)) [
    | inl restarted ↦ rw restarted (records_told_of (leg_at m.world.legs x) refl)
    | inr not_so ↦ rw not_so (no_records m.world temporary_failure)
  ]

-- ---- the slots of a line

pub below_kept : (d : Dimensions) (tones : Tones) (r : Restart) (line : ℕ) (w : World) → line < d.external → Kept d tones w → (place : ℕ) → place ≤ 30 → Kept d tones (outcome_below d (restart_rule tones r) line w place).making.world
below_kept d tones r line w below kept =
    each_below d (restart_rule tones r) line w (λ a. Kept d tones a.making.world) kept (λ a place small k. slot_kept d tones r a.making (record { line = line; place = place }) k (below, small))

-- ---- what is recorded of a slot

pub slot_is : (r : Restart) (w : World) (x : Slot) (leg : Leg) → is_restarted r x.place ≡ true → leg_at w.legs x ≡ Some leg
    → slot_records r w x ≡ cons_option (record_ended w (record { slot = x; leg = leg }) temporary_failure) []
slot_is r w x leg restarted at = rw (restarted, at) refl

-- the acknowledgement can be written
pub acknowledgement_writable : (r : Restart) → IsOnLine r → IsWritable (acknowledgement r)
acknowledgement_writable (Channel place) within = short_writable true global_call_reference kind.RestartAcknowledge None None (Some (channel_at place)) (Some indicated_channels) (omega arith) tt tt tt (is_bearer_channel_bears place within)
acknowledgement_writable (Interface class) within = short_writable true global_call_reference kind.RestartAcknowledge None None None (Some class) (omega arith) tt tt tt tt

-- and so can a RESTART of the exchange
pub restart_writable : (r : Restart) → IsOnLine r → IsWritable (restart_of r)
restart_writable (Channel place) within = short_writable false global_call_reference kind.Restart None None (Some (channel_at place)) (Some indicated_channels) (omega arith) tt tt tt (is_bearer_channel_bears place within)
restart_writable (Interface class) within = short_writable false global_call_reference kind.Restart None None None (Some class) (omega arith) tt tt tt tt
