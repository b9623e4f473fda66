-- What the restart of a slot makes of the legs, and of what slots hear that no leg holds.
use Rattle.std.proofs.Common.{◌≡◌, ℕ, true, false, inl, inr, Option, Some, None, refl, sym, ◌∙◌, ap, subst, if◌then◌else◌}
use Rattle.std.specs.Prelude.{option_map}
use Rattle.circuit_model.specs.declared.channel.Slot.{Slot}
use Rattle.circuit_model.specs.declared.circuit.Circuit.{Circuit}
use Rattle.circuit_model.specs.declared.circuit.Kind.{Kind}
use Rattle.circuit_model.specs.declared.circuit.Circuit.TheVariants.{Pair, Member, Tone}
use Rattle.circuit_model.specs.Circuits.{heard_by, unless_naming, names}
use Rattle.circuit_model.specs.Extent.{IsExternal}
use Rattle.circuit_model.specs.Holding.{Holding, Clear as Clear_slot, after, Valid}
use Rattle.circuit_model.proofs.Hearing.{heard_by-stands}
use Rattle.circuit_model.proofs.Slots.{true_or_false, same_slot-true, same_slot-false}
use Rattle.circuit_model.proofs.Validity.{valid-clear, heard_by-clear, heard_by-mutual}
use Rattle.q931_codec.specs.Causes.{temporary_failure}
use Rattle.call_states.specs.declared.condition.Condition.{Condition}
use Rattle.call_states.specs.declared.condition.Condition.TheVariants.{Idle}
use Rattle.call_states.specs.declared.leg.Leg.{Leg}
use Rattle.call_states.specs.declared.leg.Peer.{Peer}
use Rattle.call_states.specs.declared.leg.Peer.TheVariants as peer
use Rattle.clearing_rules.specs.declared.scope.Restart.{Restart}
use Rattle.clearing_rules.specs.Restarting.{is_restarted}
use Rattle.tone_rules.specs.declared.tones.Tones.{Tones}
use Rattle.call_states.specs.declared.leg.HeldLeg.{HeldLeg}
use Rattle.call_profile.specs.Acts.{in_disconnect_indication, tone_of, peer_of, with_peer, clear_with, remove_leg}
use Rattle.call_profile.specs.LegStanding.{LegsStand, HasPeer, MayHear, IsInCall}
use Rattle.call_profile.specs.Legs.{waiting_from, leg_at, with_entry}
use Rattle.call_profile.specs.Operations.{Making, begun, making_after_all, with_tone}
use Rattle.call_profile.specs.Restarts.{restarts_slot, restart_peer, restart_leg, restart_slot}
use Rattle.exchange_events.specs.Sizes.{Dimensions}
use Rattle.call_profile.specs.World.{World}
use Rattle.call_profile.proofs.BesideLemmas.{look, leg_at-with_entry_here, leg_at-with_entry_else, named_back, same_or_apart}
use Rattle.call_profile.proofs.TwoEntriesLemmas.{ArePeers, strange_both}
use Rattle.call_profile.proofs.ClearingLemmas.{Kept, held_there, peers_of}
use Rattle.call_profile.proofs.CommandLemmas.{not_empty, strange_to_empty}
use Rattle.call_profile.proofs.HearingLemmas.{IsStrange, heard_by_clear_keeps, heard_by_clear_both_keeps}
use Rattle.call_profile.proofs.LegTableLemmas.{leg_at_both_else, leg_at_both_first, leg_at_both_second}
use Rattle.call_profile.proofs.ToneLemmas.{cleared_is_idle, heard_by_sounding_keeps, with_tone_sounding_next}

-- ---- a slot that no leg holds

-- clearing the slot of a leg leaves what such a slot hears
module _ (external bridges : ℕ) (tones : Tones) (w : World) (valid : Valid bridges w.holding) (stand : LegsStand external tones w)
    (x : Slot) (leg : Leg) (in_x : IsExternal external x) (at : leg_at w.legs x ≡ Some leg) (y : Slot) (none : leg_at w.legs y ≡ None) where
  apart : y ≡ x → ⊥
  apart same = not_empty w.legs y x leg none at (sym same)

  -- no connection joins the two
  not_joined : (from : Slot) (since : ℕ) → heard_by w.holding.circuits y ≡ Some (Pair from y since) → from ≡ x → ⊥
  not_joined from since e same =
      let hears = subst (λ z. heard_by w.holding.circuits y ≡ Some (Pair z y since)) same e in
      let back = heard_by-mutual w.holding.circuits y x since (valid.standing y) (valid.standing x) hears in
      let may = subst (MayHear tones leg) back (stand.each x leg in_x at).hears in
      let has = subst (HasPeer external w.legs x leg) may.1 (stand.each x leg in_x at).peer in
      let wrong : None ≡ Some has.1.0 = sym none ∙ has.1.1 in
      cc

  names_unnamed : (c : Circuit) → heard_by w.holding.circuits y ≡ Some c → names x c ≡ false
  names_unnamed (Pair from to since) e =
      let hears = same_slot-true y to (heard_by-stands w.holding.circuits y (Pair from to since) e).1 in
      let here = subst (λ z. heard_by w.holding.circuits y ≡ Some (Pair from z since)) (sym hears) e in
      let not_from = same_slot-false x from (λ same. not_joined from since here (sym same)) in
      let not_to = same_slot-false x to (λ same. apart (hears ∙ sym same)) in
      rw (not_from, not_to) refl
  names_unnamed (Member room to since) e =
      let hears = same_slot-true y to (heard_by-stands w.holding.circuits y (Member room to since) e).1 in
      same_slot-false x to (λ same. apart (hears ∙ sym same))
  names_unnamed (Tone kind to since) e =
      let hears = same_slot-true y to (heard_by-stands w.holding.circuits y (Tone kind to since) e).1 in
      same_slot-false x to (λ same. apart (hears ∙ sym same))

  unless_naming_kept_by : (o : Option Circuit) → heard_by w.holding.circuits y ≡ o → unless_naming x o ≡ o
  unless_naming_kept_by None e = refl
  unless_naming_kept_by (Some c) e = rw (names_unnamed c e) refl

  pub unless_naming_unheld_keeps : unless_naming x (heard_by w.holding.circuits y) ≡ heard_by w.holding.circuits y
  unless_naming_unheld_keeps = unless_naming_kept_by (heard_by w.holding.circuits y) refl

-- ---- one slot is restarted

-- what becomes of the leg of a call whose other leg was at the slot: it is gone if its own slot is restarted too, and is cleared otherwise
abbrev pub peer_after : Restart → ℕ → ℕ → ℕ → Slot → Leg → Option Leg
peer_after r cause line next z other = if restarts_slot r line z then None else Some (waiting_from next (in_disconnect_indication cause other))

-- the slot holds no leg any more, and the other leg of its call is what it must be; all others are as they were, and hear what they heard; and so
-- do the slots that no leg holds
pub record IsRestartedAt (external : ℕ) (r : Restart) (cause line : ℕ) (u v : World) (x : Slot) : Type 0 where
  pub here : leg_at v.legs x ≡ None
  pub other_leg : (z : Slot) (other : Leg) → IsExternal external z → leg_at u.legs z ≡ Some other → other.peer ≡ peer.Leg x → leg_at v.legs z ≡ peer_after r cause line u.holding.next z other
  pub legs : (z : Slot) → IsExternal external z → (z ≡ x → ⊥) → ((other : Leg) → leg_at u.legs z ≡ Some other → other.peer ≡ peer.Leg x → ⊥) → leg_at v.legs z ≡ leg_at u.legs z
  pub heard : (z : Slot) (l : Leg) → IsExternal external z → leg_at u.legs z ≡ Some l → (z ≡ x → ⊥) → (l.peer ≡ peer.Leg x → ⊥) → heard_by v.holding.circuits z ≡ heard_by u.holding.circuits z
  pub unheld : (z : Slot) → IsExternal external z → leg_at u.legs z ≡ None → heard_by v.holding.circuits z ≡ heard_by u.holding.circuits z
  pub next : v.holding.next ≡ u.holding.next

module _ (d : Dimensions) (tones : Tones) (r : Restart) (cause : ℕ) (condition : Condition) (line : ℕ) (m : Making) (x : Slot) (on_line : x.line ≡ line) (kept : Kept d tones m.world) (in_x : IsExternal d.external x) where
  abbrev u : World
  u = m.world

  abbrev Done : World → Type 0
  Done v = IsRestartedAt d.external r cause line u v x

  -- no leg holds it
  none_done : leg_at u.legs x ≡ None → Done u
  none_done none = record {
    here = none;
    other_leg = λ z other in_z at_z is. absurd (strange_to_empty d.external tones u x kept.1 none z other in_z at_z x is refl);
    legs = λ z in_z not_x strange. refl;
    heard = λ z l in_z at_z not_x strange. refl;
    unheld = λ z in_z none_z. refl;
    next = refl;
  }

  module _ (leg : Leg) (at : leg_at u.legs x ≡ Some leg) where
    abbrev held : HeldLeg
    held = record { slot = x; leg = leg }

    abbrev gone : Making
    gone = making_after_all d m (remove_leg condition held)

    keeps_unheld : (y : Slot) → leg_at u.legs y ≡ None → heard_by (after u.holding (Clear_slot x)).circuits y ≡ heard_by u.holding.circuits y
    keeps_unheld y none = heard_by-clear u.holding.circuits x y (kept.0.standing y) ∙ unless_naming_unheld_keeps d.external d.bridges tones u kept.0 kept.1 x leg in_x at y none

    strange_if : (z : Slot) (l : Leg) → (l.peer ≡ peer.Leg x → ⊥) → IsStrange l x
    strange_if z l strange p is same = strange (is ∙ ap (λ (q : Slot). let named : Peer = peer.Leg q in named) same)

    -- its call has no other leg
    one_done : ((p : Slot) → leg.peer ≡ peer.Leg p → ⊥) → Done gone.world
    one_done no_peer = record {
      here = leg_at-with_entry_here d.external u.legs x None kept.1.count in_x;
      other_leg = λ z other in_z at_z is. absurd (no_peer z (named_back d.external u.legs z x other leg is (kept.1.each z other in_z at_z).peer at));
      legs = λ z in_z not_x strange. leg_at-with_entry_else d.external u.legs x z None in_x in_z not_x;
      heard = λ z l in_z at_z not_x strange. heard_by_clear_keeps d.bridges tones u.holding l z x kept.0 (kept.1.each z l in_z at_z).hears not_x (strange_if z l strange);
      unheld = λ z in_z none_z. keeps_unheld z none_z;
      next = refl;
    }

    -- it has one, which becomes this
    module _ (y : Slot) (other : Leg) (in_y : IsExternal d.external y) (at_y : leg_at u.legs y ≡ Some other) (call : IsInCall leg.side x leg y other)
        (o : Option Leg) (is : peer_after r cause line u.holding.next y other ≡ o) (tone : Option Kind)
        (v : World) (legs : v.legs.held ≡ (with_entry (with_entry u.legs x None) y o).held)
        (holding : v.holding ≡ with_tone (after (after u.holding (Clear_slot x)) (Clear_slot y)) y tone) where
      peers : ArePeers d.external u x y leg other
      peers = peers_of d.external u x y leg other in_x in_y at at_y call

      abbrev cleared : Holding
      cleared = after (after u.holding (Clear_slot x)) (Clear_slot y)

      not_peer : (z : Slot) → IsExternal d.external z → (z ≡ y → ⊥) → (l : Leg) → leg_at u.legs z ≡ Some l → l.peer ≡ peer.Leg x → ⊥
      not_peer z in_z not_y l at_z names_x =
          let back = named_back d.external u.legs z x l leg names_x (kept.1.each z l in_z at_z).peer at in
          let e : peer.Leg y ≡ peer.Leg z = sym peers.there ∙ back in
          let same : y ≡ z = cc in
          not_y (sym same)

      is_other : (l : Leg) → leg_at u.legs y ≡ Some l → l ≡ other
      is_other l at_l = let e : Some l ≡ Some other = sym at_l ∙ at_y in cc

      here_y : leg_at v.legs y ≡ o
      here_y = ap (look y) legs ∙ leg_at_both_second d.external u.legs x y None o kept.1.count in_x in_y peers.apart

      both_other : (z : Slot) (l : Leg) → IsExternal d.external z → leg_at u.legs z ≡ Some l → l.peer ≡ peer.Leg x → leg_at v.legs z ≡ peer_after r cause line u.holding.next z l
      both_other z l in_z at_z names_x = elim (same_or_apart z y) [
        | inl same ↦
            let at_l = sym (ap (leg_at u.legs) same) ∙ at_z in
            let this = is_other l at_l in
            subst (λ q. leg_at v.legs q ≡ peer_after r cause line u.holding.next q l) (sym same) (subst (λ k. leg_at v.legs y ≡ peer_after r cause line u.holding.next y k) (sym this) (here_y ∙ sym is))
        | inr not_y ↦ absurd (not_peer z in_z not_y l at_z names_x)
      ]

      apart_from : (z : Slot) → ((l : Leg) → leg_at u.legs z ≡ Some l → l.peer ≡ peer.Leg x → ⊥) → z ≡ y → ⊥
      apart_from z strange same = strange other (ap (leg_at u.legs) same ∙ at_y) peers.back

      both_heard : (z : Slot) (l : Leg) → IsExternal d.external z → leg_at u.legs z ≡ Some l → (z ≡ x → ⊥) → (z ≡ y → ⊥) → heard_by v.holding.circuits z ≡ heard_by u.holding.circuits z
      both_heard z l in_z at_z not_x not_y =
          let strange = strange_both d.external tones u x y leg other kept.1 peers z l in_z at_z not_x not_y in
          ap (λ (h : Holding). heard_by h.circuits z) holding
          ∙ heard_by_sounding_keeps cleared y (cleared_is_idle (after u.holding (Clear_slot x)) y) z not_y tone
          ∙ heard_by_clear_both_keeps d.bridges tones u.holding l z x y kept.0 (kept.1.each z l in_z at_z).hears not_x strange.0 not_y strange.1

      both_unheld : (z : Slot) → leg_at u.legs z ≡ None → heard_by v.holding.circuits z ≡ heard_by u.holding.circuits z
      both_unheld z none =
          let not_y : z ≡ y → ⊥ = λ same. not_empty u.legs z y other none at_y (sym same) in
          ap (λ (h : Holding). heard_by h.circuits z) holding
          ∙ heard_by_sounding_keeps cleared y (cleared_is_idle (after u.holding (Clear_slot x)) y) z not_y tone
          ∙ heard_by-clear (after u.holding (Clear_slot x)).circuits y z ((valid-clear d.bridges u.holding x kept.0).standing z)
          ∙ ap (unless_naming y) (keeps_unheld z none)
          ∙ unless_naming_unheld_keeps d.external d.bridges tones u kept.0 kept.1 y other in_y at_y z none

      both_done : Done v
      both_done = record {
        here = ap (look x) legs ∙ leg_at_both_first d.external u.legs x y None o kept.1.count in_x in_y peers.apart;
        other_leg = both_other;
        legs = λ z in_z not_x strange. ap (look z) legs ∙ leg_at_both_else d.external u.legs x y None o kept.1.count in_x in_y peers.apart z in_z not_x (apart_from z strange);
        heard = λ z l in_z at_z not_x strange. both_heard z l in_z at_z not_x (λ same. strange (ap (λ (k : Leg). k.peer) (is_other l (sym (ap (leg_at u.legs) same) ∙ at_z)) ∙ peers.back));
        unheld = λ z in_z none. both_unheld z none;
        next = ap (λ (h : Holding). h.next) holding ∙ with_tone_sounding_next cleared y tone;
      }

    with_peer_done : (p : Peer) → leg.peer ≡ p → HasPeer d.external u.legs x leg p → Done (making_after_all d gone (with_peer (peer_of u.legs p) (restart_peer tones cause condition r line))).world
    with_peer_done peer.Alone is has = one_done (λ p same. let e : peer.Alone ≡ peer.Leg p = sym is ∙ same in cc)
    with_peer_done (peer.Leg y) is has =
        let other = has.1.0 in
        rw (held_there u.legs y other has.1.1) (elim (true_or_false (restarts_slot r line y)) [
          | inl too ↦ rw too (both_done y other has.0 has.1.1 has.1.2 None (rw too refl) None
              (making_after_all d gone (remove_leg condition (record { slot = y; leg = other }))).world refl refl)
          | inr not_so ↦ rw not_so (both_done y other has.0 has.1.1 has.1.2 (Some (begun u (in_disconnect_indication cause other))) (rw not_so refl)
              (tone_of tones (in_disconnect_indication cause other))
              (making_after_all d gone (clear_with tones cause (record { slot = y; leg = other }))).world refl refl)
        ])
    with_peer_done (peer.Room room) is has = one_done (λ p same. let e : peer.Room room ≡ peer.Leg p = sym is ∙ same in cc)

    pub leg_done : Done (making_after_all d m (restart_leg tones cause condition r u.legs (Some held))).world
    leg_done = subst (λ n. Done (making_after_all d gone (with_peer (peer_of u.legs leg.peer) (restart_peer tones cause condition r n))).world) (sym on_line) (with_peer_done leg.peer refl (kept.1.each x leg in_x at).peer)

  pub held_done : (o : Option Leg) → leg_at u.legs x ≡ o
      → Done (making_after_all d m (restart_leg tones cause condition r u.legs (option_map (λ (leg : Leg). let h : HeldLeg = record { slot = x; leg = leg } in h) o))).world
  held_done None none = none_done none
  held_done (Some leg) at = leg_done leg at

module _ (d : Dimensions) (tones : Tones) (r : Restart) (line : ℕ) (m : Making) (x : Slot) (on_line : x.line ≡ line) (kept : Kept d tones m.world) (in_x : IsExternal d.external x) where
  pub slot_done : is_restarted r x.place ≡ true → IsRestartedAt d.external r temporary_failure line m.world (making_after_all d m (restart_slot tones r m.world.legs x)).world x
  slot_done restarted = rw restarted (held_done d tones r temporary_failure Idle line m x on_line kept in_x (leg_at m.world.legs x) refl)
