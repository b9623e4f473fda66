-- Whatever expires, each operation that is done for it is permitted, and the legs stay consistent.
use Rattle.std.proofs.Common.{◌≡◌, ℕ, zero, suc, ◌<◌, ◌≤◌, true, inl, List, [], ◌++◌, Option, Some, None, refl, sym, ◌∙◌, subst, arith}
use Rattle.std.specs.Prelude.{option_map}
use Rattle.circuit_model.specs.declared.channel.Slot.{Slot}
use Rattle.circuit_model.specs.Extent.{IsExternal}
use Rattle.q931_codec.specs.declared.kind.MessageKind.TheVariants as kind
use Rattle.q931_codec.specs.Causes.{invalid_number_format, no_answer_from_user, no_user_responding, recovery_on_timer_expiry, destination_out_of_order}
use Rattle.q931_codec.specs.Outgoing.{IsWritable}
use Rattle.call_timers.specs.declared.expiry.Expiry.{Expiry}
use Rattle.call_timers.specs.declared.expiry.Expiry.TheVariants as expiry
use Rattle.call_states.specs.declared.condition.Condition.TheVariants.{Owed}
use Rattle.call_states.specs.Acts.{is_among}
use Rattle.q931_codec.proofs.Writable.{short_writable}
use Rattle.call_states.specs.Status.{FitsMessages}
use Rattle.call_states.specs.declared.leg.HeldLeg.{HeldLeg}
use Rattle.call_states.specs.declared.leg.Leg.{Leg}
use Rattle.call_states.specs.declared.leg.Peer.{Peer}
use Rattle.call_states.specs.declared.leg.Peer.TheVariants as peer
use Rattle.number_plan.specs.declared.plan.Number.{Number}
use Rattle.tone_rules.specs.declared.tones.Tones.{Tones}
use Rattle.exchange_events.specs.Sizes.{Setting, Dimensions}
use Rattle.call_profile.specs.Acts.{in_release_request, peer_of, with_peer, clear_with, remove_leg}
use Rattle.call_profile.specs.Expiring.{timed_state, release_for, release_complete_for, send_again, give_up, ask_for_release, clear_peer, clear_both, on_expiry, release_over, due_of, if_due, expire_leg, expire_slot, slot_looked_at, outcome_on_line, outcome_of_lines, outage_over}
use Rattle.call_profile.specs.KeptMessages.{IsAwaited}
use Rattle.call_profile.specs.LegStanding.{LegStands, HasPeer, alone}
use Rattle.call_profile.specs.Legs.{Legs, leg_at, kept_at}
use Rattle.call_profile.specs.Operations.{Operation, Making, making_at, making_after_all}
use Rattle.call_profile.specs.Peers.{IsThere, PeerIsThere}
use Rattle.call_profile.specs.Restarts.{MessageOutcome}
use Rattle.call_profile.specs.World.{World}
use Rattle.call_profile.proofs.ClearingLemmas.{Kept, clearing_kept, alone_kept}
use Rattle.call_profile.proofs.DigitsLemmas.{cleared_kept}
use Rattle.call_profile.proofs.DisconnectedCallLemmas.{disconnected_by}
use Rattle.call_profile.proofs.ExpiredLegLemmas.{waits_anew, release_asked}
use Rattle.call_profile.proofs.ExpiryStateLemmas.{due_state, is_alone}
use Rattle.call_profile.proofs.PermittedActLemmas.{is_there, peer_there_too, clear_permitted, peer_permitted}
use Rattle.call_profile.proofs.Permitted.{ArePermitted, permitted_both}

module _ (d : Dimensions) (tones : Tones) (m : Making) (x : Slot) (leg : Leg) (kept : Kept d tones m.world) (within : IsExternal d.external x) (at : leg_at m.world.legs x ≡ Some leg) where
  abbrev h : HeldLeg
  h = record { slot = x; leg = leg }

  abbrev w : World
  w = m.world

  stands : LegStands d.external tones w x leg
  stands = kept.1.each x leg within at

  there : IsThere d.external h
  there = is_there d.external tones w h kept.1 within at

  peer_too : PeerIsThere d.external h (peer_of w.legs leg.peer)
  peer_too = peer_there_too d.external tones w h kept.1 within at

  -- ---- permitted

  module _ (plan : List Number) where
    abbrev May : List Operation → Type 0
    May os = ArePermitted d tones plan m os

    pub again_may : (o : Option (List ℕ)) → kept_at w.legs x ≡ o → May (send_again h o)
    again_may None is = tt
    again_may (Some octets) is = ((within, at, is), tt)

    over_may : May (give_up h ++ clear_peer tones w.legs h no_user_responding)
    over_may =
        let sends : IsWritable (release_complete_for leg recovery_on_timer_expiry) = short_writable _ leg.reference kind.ReleaseComplete (Some recovery_on_timer_expiry) None None None there.told.reference tt (omega arith) tt tt in
        (within, (within, ((within.0, sends), peer_permitted d tones plan (making_after_all d m (give_up h)) h no_user_responding (peer_of w.legs leg.peer) peer_too (omega arith))))

    both_may : (cause : ℕ) → cause < 128 → May (clear_both tones w.legs h cause)
    both_may cause small =
        permitted_both d tones plan m (clear_with tones recovery_on_timer_expiry h) (clear_peer tones w.legs h cause) (clear_permitted d tones plan m recovery_on_timer_expiry h there (omega arith))
        (peer_permitted d tones plan (making_after_all d m (clear_with tones recovery_on_timer_expiry h)) h cause (peer_of w.legs leg.peer) peer_too small)

    asked_may : May (ask_for_release h)
    asked_may =
        let expects : IsAwaited (in_release_request leg) (release_for leg leg.cause) = record {
          flag = refl;
          reference = refl;
          state = refl;
          writable = short_writable _ leg.reference kind.Release (Some leg.cause) None None None there.told.reference tt stands.cause tt tt;
          quiet = refl;
        } in
        let told : FitsMessages (in_release_request leg) = record { state = omega arith; reference = there.told.reference } in
        ((within, told, expects), tt)

    pub expiry_may : (e : Expiry) → May (on_expiry tones w.legs h e)
    expiry_may expiry.Digits = clear_permitted d tones plan m invalid_number_format h there (omega arith)
    expiry_may expiry.SetupAgain = again_may (kept_at w.legs x) refl
    expiry_may expiry.SetupOver = over_may
    expiry_may expiry.Proceeding = both_may no_user_responding (omega arith)
    expiry_may expiry.Alerting = both_may no_answer_from_user (omega arith)
    expiry_may expiry.Outage = (within, (within, peer_permitted d tones plan (making_after_all d m (remove_leg Owed h)) h destination_out_of_order (peer_of w.legs leg.peer) peer_too (omega arith)))
    expiry_may expiry.Disconnect = asked_may
    expiry_may expiry.ReleaseAgain = again_may (kept_at w.legs x) refl
    expiry_may expiry.ReleaseOver = (within, (within, tt))

  -- ---- and consistent afterwards

  abbrev Fine : List Operation → Type 0
  Fine os = Kept d tones (making_after_all d m os).world

  nobody : is_among alone leg.state ≡ true → leg.peer ≡ peer.Alone
  nobody among = is_alone d.external w.legs x leg leg.peer among stands.peer

  no_leg : leg.peer ≡ peer.Alone → (p : Slot) → leg.peer ≡ peer.Leg p → ⊥
  no_leg is p same = let wrong : peer.Alone ≡ peer.Leg p = sym is ∙ same in cc

  digits_fine : leg.peer ≡ peer.Alone → Fine (clear_with tones invalid_number_format h)
  digits_fine is = cleared_kept d tones w h invalid_number_format (omega arith) kept.0 kept.1 within at is

  pub again_fine : (o : Option (List ℕ)) → Fine (send_again h o)
  again_fine None = kept
  again_fine (Some octets) = (kept.0, waits_anew d.external tones w (making_after_all d m (send_again h (Some octets))).world x leg w.holding.next true kept.1 within at refl refl)

  over_fine : Fine (give_up h ++ clear_peer tones w.legs h no_user_responding)
  over_fine = clearing_kept d tones w x leg None no_user_responding (omega arith) kept.0 kept.1 within at (inl refl) (making_after_all d m (give_up h)) refl refl

  outage_fine : Fine (outage_over tones w.legs h)
  outage_fine = clearing_kept d tones w x leg None destination_out_of_order (omega arith) kept.0 kept.1 within at (inl refl) (making_after_all d m (remove_leg Owed h)) refl refl

  released_fine : leg.peer ≡ peer.Alone → Fine (release_over w.legs h)
  released_fine is = alone_kept d tones w x leg None no_user_responding (omega arith) kept.0 kept.1 within at (inl refl) (making_after_all d m (release_over w.legs h)) refl refl (no_leg is)

  asked_fine : leg.state ≡ timed_state expiry.Disconnect → leg.peer ≡ peer.Alone → Fine (ask_for_release h)
  asked_fine state is = (kept.0, release_asked d.external tones w (making_after_all d m (ask_for_release h)).world x leg w.holding.next kept.1 within at state is refl refl)

  -- both legs are disconnected, where the call has two
  both_by : (cause : ℕ) → cause < 128 → (p : Peer) → leg.peer ≡ p → HasPeer d.external w.legs x leg p
      → Fine (clear_with tones recovery_on_timer_expiry h ++ with_peer (peer_of w.legs p) (clear_with tones cause))
  both_by cause small p is has = disconnected_by d tones m h recovery_on_timer_expiry cause (omega arith) small kept.0 kept.1 within at p is has

  pub expiry_fine : (e : Expiry) → leg.state ≡ timed_state e → Fine (on_expiry tones w.legs h e)
  expiry_fine expiry.Digits state = digits_fine (nobody (rw state refl))
  expiry_fine expiry.SetupAgain state = again_fine (kept_at w.legs x)
  expiry_fine expiry.SetupOver state = over_fine
  expiry_fine expiry.Proceeding state = both_by no_user_responding (omega arith) leg.peer refl stands.peer
  expiry_fine expiry.Alerting state = both_by no_answer_from_user (omega arith) leg.peer refl stands.peer
  expiry_fine expiry.Outage state = outage_fine
  expiry_fine expiry.Disconnect state = asked_fine state (nobody (rw state refl))
  expiry_fine expiry.ReleaseAgain state = again_fine (kept_at w.legs x)
  expiry_fine expiry.ReleaseOver state = released_fine (nobody (rw state refl))

-- ---- a slot, in a frame

-- what holds where nothing is done, and of what is done for an expiry of the leg that holds the slot, holds of what is done at the slot
module _ (s : Setting) (frame : ℕ) (legs : Legs) (x : Slot) (P : List Operation → Type 0) (none : P [])
    (some : (leg : Leg) (e : Expiry) → leg_at legs x ≡ Some leg → due_of s.timers frame leg ≡ Some e → P (on_expiry s.tones legs (record { slot = x; leg = leg }) e)) where
  due_by : (leg : Leg) (o : Option Expiry) → leg_at legs x ≡ Some leg → due_of s.timers frame leg ≡ o → P (if_due s.tones legs (record { slot = x; leg = leg }) o)
  due_by leg None at is = none
  due_by leg (Some e) at is = some leg e at is

  held_by : (o : Option Leg) → leg_at legs x ≡ o → P (expire_leg s frame legs (option_map (λ (leg : Leg). let held : HeldLeg = record { slot = x; leg = leg } in held) o))
  held_by None at = none
  held_by (Some leg) at = due_by leg (due_of s.timers frame leg) at refl

  pub at_slot : P (expire_slot s frame legs x)
  at_slot = held_by (leg_at legs x) refl

module _ (s : Setting) (frame : ℕ) (m : Making) (x : Slot) (kept : Kept s.dimensions s.tones m.world) (within : IsExternal s.dimensions.external x) where
  pub slot_may : (plan : List Number) → ArePermitted s.dimensions s.tones plan m (expire_slot s frame m.world.legs x)
  slot_may plan = at_slot s frame m.world.legs x (ArePermitted s.dimensions s.tones plan m) tt (λ leg e at is. expiry_may s.dimensions s.tones m x leg kept within at plan e)

  pub slot_fine : Kept s.dimensions s.tones (making_after_all s.dimensions m (expire_slot s frame m.world.legs x)).world
  slot_fine = at_slot s frame m.world.legs x (λ os. Kept s.dimensions s.tones (making_after_all s.dimensions m os).world) kept
      (λ leg e at is. expiry_fine s.dimensions s.tones m x leg kept within at e (due_state leg.state leg.resent leg.since frame s.timers e is))

-- ---- the lines of a frame, one after another

pub lines_none : (s : Setting) (frame : ℕ) (w : World) → outcome_of_lines s frame w 0 ≡ record { making = making_at w; recorded = [] }
unfolding outcome_of_lines
lines_none s frame w = refl

pub lines_more : (s : Setting) (frame : ℕ) (w : World) (line : ℕ) → outcome_of_lines s frame w (suc line) ≡ outcome_on_line s frame line (outcome_of_lines s frame w line)
unfolding outcome_of_lines
lines_more s frame w line = refl

-- what holds before the first, and is kept at each, holds at the end
pub each_line : (s : Setting) (frame : ℕ) (w : World) (P : MessageOutcome → Type 0) → P (record { making = making_at w; recorded = [] })
    → ((a : MessageOutcome) (line : ℕ) → line < s.dimensions.external → P a → P (outcome_on_line s frame line a))
    → (lines : ℕ) → lines ≤ s.dimensions.external → P (outcome_of_lines s frame w lines)
each_line s frame w P first more zero few = subst P (sym (lines_none s frame w)) first
each_line s frame w P first more (suc line) few =
    subst P (sym (lines_more s frame w line)) (more (outcome_of_lines s frame w line) line (omega (arith, few)) (each_line s frame w P first more line (omega (arith, few))))

pub place_within : (external frame line : ℕ) → line < external → IsExternal external (slot_looked_at frame line)
place_within external frame line below = (below, omega arith)

pub lines_kept : (s : Setting) (frame : ℕ) (w : World) → Kept s.dimensions s.tones w → (lines : ℕ) → lines ≤ s.dimensions.external → Kept s.dimensions s.tones (outcome_of_lines s frame w lines).making.world
lines_kept s frame w kept =
    each_line s frame w (λ a. Kept s.dimensions s.tones a.making.world) kept
    (λ a line small k. slot_fine s frame a.making (slot_looked_at frame line) k (place_within s.dimensions.external frame line small))
