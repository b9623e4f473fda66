-- An answered call whose T309 doesn't expire stays, whatever expires in the frame.
use Rattle.std.proofs.Common.{◌≡◌, ℕ, ◌<◌, ◌≤◌, Option, Some, None, refl, sym, ◌∙◌, ap, subst, arith}
use Rattle.std.specs.Prelude.{◌%◌}
use Rattle.circuit_model.specs.declared.channel.Slot.{Slot}
use Rattle.circuit_model.specs.declared.circuit.Circuit.{Circuit}
use Rattle.circuit_model.specs.Circuits.{heard_by}
use Rattle.circuit_model.specs.Extent.{IsExternal}
use Rattle.circuit_model.specs.FrameInput.{Input}
use Rattle.q931_codec.specs.CallStates.{active}
use Rattle.call_states.specs.declared.leg.Leg.{Leg}
use Rattle.call_states.specs.declared.leg.Peer.TheVariants as peer
use Rattle.exchange_events.specs.Sizes.{Setting, Dimensions}
use Rattle.call_profile.specs.Expiring.{due_of, slot_looked_at, outcome_of_lines}
use Rattle.call_profile.specs.Legs.{leg_at}
use Rattle.call_profile.specs.LegStanding.{CallsStand, HasPeer, MayHear}
use Rattle.call_laws.specs.LostLegs.{IsLost, NeitherIsLost, IsUnchanged}
use Rattle.call_profile.specs.Operations.{Making}
use Rattle.call_profile.specs.Restarts.{MessageOutcome}
use Rattle.call_profile.specs.World.{World, pass}
use Rattle.call_profile.proofs.BesideLemmas.{peer_back}
use Rattle.call_profile.proofs.ClearingLemmas.{Kept}
use Rattle.call_profile.proofs.CommandLemmas.{pass_kept}
use Rattle.call_laws.proofs.DroppedLineLemmas.{call_active}
use Rattle.call_profile.proofs.ExpiringLemmas.{lines_none}
use Rattle.call_laws.proofs.LostLegLemmas.{IsAside, active_quiet, at_first, leg_aside, leg_then, same_leg, through}
use Rattle.call_laws.proofs.LostRecordLemmas.{heard_then}

module _ (s : Setting) (frame : ℕ) (w : World) (kept : Kept s.dimensions s.tones w) (later : frame < w.holding.next) where
  abbrev d : Dimensions
  d = s.dimensions

  abbrev made : ℕ → Making
  made n = (outcome_of_lines s frame w n).making

  -- ---- either leg

  module _ (x : Slot) (leg : Leg) (in_x : IsExternal d.external x) (at : leg_at w.legs x ≡ Some leg) (up : leg.state ≡ active) (own : IsLost s.timers frame w.legs x leg → ⊥)
      (others : (y : Slot) (other : Leg) → leg.peer ≡ peer.Leg y → IsLost s.timers frame w.legs y other → ⊥) where
    -- the state of the other leg
    other_up : (y : Slot) (other : Leg) → leg.peer ≡ peer.Leg y → leg_at w.legs y ≡ Some other → other.state ≡ active
    other_up y other named at_y =
        let has = subst (HasPeer d.external w.legs x leg) named (kept.1.each x leg in_x at).peer in
        let same = same_leg (leg_at w.legs y) has.1.0 other has.1.1 at_y in
        ap (λ (l : Leg). l.state) (sym same) ∙ (call_active leg.side x y leg has.1.0 has.1.2).0 up

    aside : (line : ℕ) (small : line < d.external) → leg_at (made line).world.legs x ≡ Some leg → IsAside s frame w kept later line small x in_x
    aside line small so_far = leg_aside s frame w kept later line small x in_x leg so_far
        (λ same. active_quiet s.timers frame leg up (λ out.
        let place : x.place ≡ frame % 30 = ap (λ (q : Slot). q.place) same in
        own (record { looked = place; at = at; due = out })))
        (λ named other at_y. active_quiet s.timers frame other (other_up (slot_looked_at frame line) other named at_y) (λ out.
        others (slot_looked_at frame line) other named (record { looked = refl; at = at_y; due = out })))

    stays : (n : ℕ) → n ≤ d.external → leg_at (made n).world.legs x ≡ Some leg
    stays n few = through (λ k. leg_at (made k).world.legs x ≡ Some leg) 0 n (at_first s frame w kept later x leg at) (λ line low high so_far.
        let small : line < d.external = omega (arith, high, few) in
        leg_then s frame w kept later line small x in_x (aside line small so_far) ∙ so_far) (omega arith)

    always_aside : (line : ℕ) (small : line < d.external) → IsAside s frame w kept later line small x in_x
    always_aside line small = aside line small (stays line (omega (arith, small)))

  -- ---- both legs

  module _ (x : Slot) (leg : Leg) (in_x : IsExternal d.external x) (at : leg_at w.legs x ≡ Some leg) (up : leg.state ≡ active) (own : IsLost s.timers frame w.legs x leg → ⊥)
      (others : (y : Slot) (other : Leg) → leg.peer ≡ peer.Leg y → IsLost s.timers frame w.legs y other → ⊥) where
    other_aside : (line : ℕ) (small : line < d.external) (p : Slot) → leg.peer ≡ peer.Leg p → (in_p : IsExternal d.external p) × IsAside s frame w kept later line small p in_p
    other_aside line small p named =
        let has = subst (HasPeer d.external w.legs x leg) named (kept.1.each x leg in_x at).peer in
        let other = has.1.0 in
        let back = peer_back leg.side x p leg other has.1.2 in
        let mine : (y : Slot) (l : Leg) → other.peer ≡ peer.Leg y → IsLost s.timers frame w.legs y l → ⊥ = λ y l names_y lost.
        let e : peer.Leg x ≡ peer.Leg y = sym back ∙ names_y in
        let here : x ≡ y = cc in
        let there : leg_at w.legs x ≡ Some l = ap (leg_at w.legs) here ∙ lost.at in
        let same = same_leg (leg_at w.legs x) leg l at there in
        let place : x.place ≡ frame % 30 = ap (λ (q : Slot). q.place) here ∙ lost.looked in
        own (record { looked = place; at = at; due = ap (due_of s.timers frame) same ∙ lost.due }) in
        (has.0, always_aside p other has.0 has.1.1 (other_up x leg in_x at up own others p other named has.1.1) (others p other named) mine line small)

    heard_always : (c : Circuit) → heard_by w.holding.circuits x ≡ Some c → heard_by (made d.external).world.holding.circuits x ≡ Some c
    heard_always c heard =
        let may : MayHear s.tones leg (Some c) = subst (MayHear s.tones leg) heard (kept.1.each x leg in_x at).hears in
        through (λ n. heard_by (made n).world.holding.circuits x ≡ Some c) 0 d.external
        (ap (λ (a : MessageOutcome). heard_by a.making.world.holding.circuits x) (lines_none s frame w) ∙ heard)
        (λ line low small so_far. heard_then s frame w kept later line small x in_x leg c may (always_aside x leg in_x at up own others line small) (other_aside line small) so_far) (omega arith)

    same_circuit : (o : Option Circuit) → heard_by w.holding.circuits x ≡ o → MayHear s.tones leg o → heard_by (made d.external).world.holding.circuits x ≡ heard_by w.holding.circuits x
    same_circuit None heard may = absurd (may.0 up)
    same_circuit (Some c) heard may = heard_always c heard ∙ sym heard

    pub lasts : (leg_at (made d.external).world.legs x ≡ Some leg) × (heard_by (made d.external).world.holding.circuits x ≡ heard_by w.holding.circuits x)
    lasts = (stays x leg in_x at up own others d.external (omega arith), same_circuit (heard_by w.holding.circuits x) refl (kept.1.each x leg in_x at).hears)

pub neither_changes : (s : Setting) (w : World) (input : Input) → CallsStand s w → (x : Slot) (leg : Leg) → NeitherIsLost s w x leg → IsUnchanged s w input x leg
neither_changes s w input stands x leg is =
    let both = lasts s w.holding.next (pass w input) (pass_kept s w stands.circuits stands.legs input) (omega arith) x leg is.within is.at is.state is.own is.others in
    record { leg = both.0; hears = both.1 }
