-- What a slot hears in release request is decided by the RELEASE that is kept there, in every run.
use Rattle.std.proofs.Common.{◌≡◌, ◌≢◌, ℕ, ◌*◌, ◌<◌, inl, inr, Bool, true, false, not, List, length, Option, Some, None, refl, sym, ◌∙◌, ap, subst, arith, eqb-true, [], ◌∷◌, if◌then◌else◌}
use Rattle.std.specs.Prelude.{is_none, option_map, slice_set}
use Rattle.std.proofs.lemmas.Grind.{common_steps}
use Rattle.circuit_model.specs.declared.channel.Slot.{Slot}
use Rattle.circuit_model.specs.declared.circuit.Circuit.{Circuit}
use Rattle.circuit_model.specs.declared.circuit.Circuit.TheVariants.{Pair, Member, Tone}
use Rattle.circuit_model.specs.FrameInput.{Input}
use Rattle.circuit_model.specs.Circuits.{is_idle, heard_by}
use Rattle.circuit_model.specs.Extent.{IsExternal}
use Rattle.circuit_model.proofs.Hearing.{heard_by-stands}
use Rattle.circuit_model.proofs.Slots.{true_or_false, same_slot-true}
use Rattle.circuit_model.proofs.Validity.{valid-frame}
use Rattle.control_memory.specs.Layout.{number_of}
use Rattle.number_plan.specs.declared.plan.Number.{Number}
use Rattle.number_plan.specs.declared.target.Found.{Found}
use Rattle.number_plan.specs.declared.target.Found.TheVariants.{Line, Lines, Room, More, Nothing}
use Rattle.q931_codec.specs.CallStates.{overlap_sending, active, disconnect_indication, release_request}
use Rattle.q931_codec.specs.Causes.{invalid_number_format, no_answer_from_user, no_user_responding, recovery_on_timer_expiry, temporary_failure, destination_out_of_order}
use Rattle.q931_codec.specs.Contents.{call_state_in, channel_in}
use Rattle.q931_codec.specs.Outgoing.{OutgoingMessage, encoding}
use Rattle.q931_codec.specs.declared.message.Message.{Message as Q931}
use Rattle.call_states.specs.declared.condition.Condition.TheVariants.{Idle, Owed}
use Rattle.call_states.specs.Acts.{act_on, clearing_cause}
use Rattle.call_states.proofs.Causes.{cause_fits}
use Rattle.call_states.specs.declared.condition.Condition.{Condition}
use Rattle.call_states.specs.Conditions.{unanswered}
use Rattle.call_states.specs.declared.leg.HeldLeg.{HeldLeg}
use Rattle.call_states.specs.declared.leg.Leg.{Leg}
use Rattle.call_states.specs.declared.leg.Peer.TheVariants as peer
use Rattle.call_states.specs.declared.pending.Pending.{Pending}
use Rattle.call_timers.specs.declared.expiry.Expiry.{Expiry}
use Rattle.call_timers.specs.declared.expiry.Expiry.TheVariants as expiry
use Rattle.clearing_rules.specs.declared.scope.Restart.{Restart}
use Rattle.clearing_rules.specs.UnknownReference.{answer_without_call}
use Rattle.tone_rules.specs.declared.tones.Tones.{Tones}
use Rattle.tone_rules.specs.CallTones.{tone_given}
use Rattle.exchange_events.specs.declared.trace.Event.{Event}
use Rattle.exchange_events.specs.declared.trace.Event.TheVariants.{Nail, Seat, Free, Message, Frame, LinkUp, LinkDown, RestartLine}
use Rattle.exchange_events.specs.Sizes.{Setting, Dimensions}
use Rattle.exchange_events.specs.Sound.{Fits, IsPlanned}
use Rattle.call_profile.specs.Acts.{in_disconnect_indication, in_release_request, peer_of, with_peer, clear_with, remove_leg, with_enquiry}
use Rattle.call_profile.specs.Calls.{Request, For_leg, New_call, On_no_call, Restarts, Confirms, Unanswered, request_of, answer_back, outcome_for}
use Rattle.call_profile.specs.Digits.{asked_with, digits_refusal, dial_on, with_pending, on_digits}
use Rattle.call_profile.specs.Expiring.{timed_state, release_for, send_again, give_up, ask_for_release, clear_peer, clear_both, on_expiry, expire_slot, slot_looked_at}
use Rattle.call_profile.specs.IdleSlots.{idle, is_nailed}
use Rattle.call_profile.specs.LegStanding.{CallsStand, MayHear}
use Rattle.call_profile.specs.Legs.{leg_at, pending_at, kept_at, awaits_restart, is_down, retransmitted_from}
use Rattle.call_profile.specs.Operations as op
use Rattle.call_profile.specs.Operations.{Operation, Making, begun, making_at, making_after, making_after_all}
use Rattle.call_profile.specs.Permitted.{CanSeat}
use Rattle.call_profile.specs.Peers.{PeerIsThere}
use Rattle.call_profile.specs.ReleaseTones.{release_with, HearsTone, SoundsByRelease, ReleasesSound, EachReleaseSounds}
use Rattle.call_profile.specs.Restarts.{confirm_rule, confirm_slot, restart_leg, restart_peer, restart_rule, restart_slot, restarts_slot}
use Rattle.call_profile.specs.Setup.{accept_at, await_digits, call, call_asked, caller_leg, caller_slot, called_slot, setup, refusal, course_of_setup, target_dialled, target_of}
use Rattle.call_profile.specs.Step.{next, may_nail, may_seat}
use Rattle.call_profile.specs.World.{World, start, pass, is_full}
use Rattle.call_profile.proofs.BesideLemmas.{leg_at-with_entry_here}
use Rattle.call_profile.proofs.ClearingLemmas.{Kept}
use Rattle.call_profile.proofs.CommandLemmas.{both_true, is_empty, not_true, count_by-is_member_not_full, pass_kept}
use Rattle.call_profile.proofs.EntryLemmas.{get_or-bare}
use Rattle.call_profile.proofs.ExpiringLemmas as expiring
use Rattle.call_profile.proofs.ExpiringLemmas.{each_line, expiry_may, place_within, slot_fine}
use Rattle.call_profile.proofs.ExpiryStateLemmas.{due_state}
use Rattle.call_profile.proofs.ConfirmedSlotLemmas.{at_confirmed, confirm_kept}
use Rattle.call_profile.proofs.GivenUpSlotLemmas.{give_up_kept}
use Rattle.call_profile.proofs.KeptMessageLemmas.{each_is_kept}
use Rattle.call_profile.proofs.MessageToLegLemmas.{Asked-act_of}
use Rattle.call_profile.proofs.NamedLegLemmas.{received_stands}
use Rattle.call_profile.proofs.Permitted.{CanPair, ArePermitted, IsPermitted}
use Rattle.call_profile.proofs.PermittedActLemmas.{peer_there_too, is_there}
use Rattle.call_profile.proofs.PermittedLemmas.{act_may, call_may}
use Rattle.call_profile.proofs.ReleaseEventLemmas.{IsElsewhere, PeerUnreleased, unreleased_by, sounding_of, peer_quiet_still, removed_sounds, clear_quiet, cleared_sounds, act_sounds, then_peer, answered_quiet}
use Rattle.call_profile.proofs.ReleaseToneLemmas.{Sounding, Unreleased, AreHushed, Sounding-making_after, performed_all}
use Rattle.call_profile.proofs.RestartedSlotLemmas.{each_below, line_restarted_by, linked_by}
use Rattle.call_profile.proofs.RestartLemmas as restarting
use Rattle.call_profile.proofs.RestartLemmas.{slot_kept}
use Rattle.call_profile.specs.LinkChanges.{give_up_leg, give_up_rule, give_up_slot, outcome_of_line_restart, outcome_of_link, rule_of, with_line, whole_line, drop_leg, enquire, restart_channel, resume_held, resume_leg}
use Rattle.call_profile.proofs.LinkLemmas.{linked_kept, rule_kept, started_may, enquired_may, resent_may, channel_may, by_drop, by_resume, at_held}

-- ---- a call is made, by a SETUP or for more digits

await_quiet : (s : Setting) (w : World) (first : Bool) (own : ℕ) (p : Pending) (x : Slot) → AreHushed s.dimensions s.tones (making_at w) (await_digits first own p x)
await_quiet s w true own p x = (tt, (tt, tt))
await_quiet s w false own p x = (tt, tt)

module _ (s : Setting) (w : World) (before : Sounding s.dimensions s.tones w) where
  abbrev May : List Operation → Type 0
  May os = ArePermitted s.dimensions s.tones s.plan (making_at w) os

  abbrev Quiet : List Operation → Type 0
  Quiet os = AreHushed s.dimensions s.tones (making_at w) os

  -- the caller of a room, which waits or not
  room_quiet : (x : Slot) (caller : Leg) → caller.state ≢ release_request → (down : Bool) → IsExternal s.dimensions.external x → Unreleased (making_after s.dimensions (making_at w) (if down then op.Await x caller else op.Put x caller)).world x
  room_quiet x caller apart true in_x = subst IsElsewhere (sym (leg_at-with_entry_here s.dimensions.external w.legs x (Some (retransmitted_from w.holding.next caller)) before.held in_x)) apart
  room_quiet x caller apart false in_x = subst IsElsewhere (sym (leg_at-with_entry_here s.dimensions.external w.legs x (Some (begun w caller)) before.held in_x)) apart

  -- its slot is one of the exchange
  room_within : (x : Slot) (caller : Leg) (down : Bool) → IsPermitted s.dimensions s.tones s.plan (making_at w) (if down then op.Await x caller else op.Put x caller) → IsExternal s.dimensions.external x
  room_within x caller true may = may.0
  room_within x caller false may = may.0

  call_quiet : (first : Bool) (own : ℕ) (p : Pending) (x : Slot) (t : Found) (o : Option Slot) → May (call first w own p x t o) → Quiet (call first w own p x t o)
  call_quiet first own p x (Line line) (Some y) may = (tt, (tt, ((λ is. absurd cc), tt)))
  call_quiet first own p x (Line line) None may = tt
  call_quiet first own p x (Lines lines) (Some y) may = (tt, (tt, ((λ is. absurd cc), tt)))
  call_quiet first own p x (Lines lines) None may = tt
  call_quiet first own p x (Room room) o may =
      let caller = caller_leg active own (peer.Room room) in
      (answered_quiet s.tones (making_at w) w.legs x caller, (room_quiet x caller (λ is. absurd cc) (is_down w.legs x.line) (room_within x caller (is_down w.legs x.line) may.0), (tt, (tt, tt))))
  call_quiet first own p x More o may = await_quiet s w first own p x
  call_quiet first own p x Nothing o may = tt

  -- a SETUP
  accept_quiet : (m : Q931) (o : Option Slot) → May (accept_at s w m o) → Quiet (accept_at s w m o)
  accept_quiet m None may = tt
  accept_quiet m (Some x) may = call_quiet true m.reference (call_asked m) x (target_of s m) (called_slot w x (target_of s m)) may

  setup_quiet : (line : ℕ) (m : Q931) (o : Option ℕ) → May (setup s w line m o) → Quiet (setup s w line m o)
  setup_quiet line m (Some cause) may = (tt, tt)
  setup_quiet line m None may = accept_quiet m (caller_slot w line (channel_in m.elements)) may

  setup_sounds : (line : ℕ) (m : Q931) → May (course_of_setup s w line m).operations → Sounding s.dimensions s.tones (making_after_all s.dimensions (making_at w) (course_of_setup s w line m).operations).world
  setup_sounds line m may = performed_all s.dimensions s.tones s.plan (making_at w) (course_of_setup s w line m).operations may (setup_quiet line m (refusal s w line m) may) before

  -- more digits
  module _ (h : HeldLeg) (m : Q931) (quiet : Unreleased w h.slot) (within : IsExternal s.dimensions.external h.slot) where
    dial_quiet : (p : Pending) (o : Option ℕ) → May (dial_on s w h p o) → Quiet (dial_on s w h p o)
    dial_quiet p (Some cause) may = clear_quiet s.dimensions s.tones s.plan (making_at w) before h cause within quiet
    dial_quiet p None may =
        let target = target_dialled s.plan p.called in
        call_quiet false h.leg.reference p h.slot target (called_slot w h.slot target) may

    pending_quiet : (o : Option Pending) → May (with_pending s w h m o) → Quiet (with_pending s w h m o)
    pending_quiet None may = tt
    pending_quiet (Some p) may = dial_quiet (asked_with p m) (digits_refusal s w h.slot p.called m) may

    digits_sound : May (on_digits s w h m) → Sounding s.dimensions s.tones (making_after_all s.dimensions (making_at w) (on_digits s w h m)).world
    digits_sound may = performed_all s.dimensions s.tones s.plan (making_at w) (on_digits s w h m) may (pending_quiet (pending_at w.legs h.slot) may) before

timed_elsewhere : (state n : ℕ) → state ≡ n → n ≢ release_request → state ≢ release_request
timed_elsewhere state n is apart same = apart (sym is ∙ same)

-- ---- a slot is restarted, or its data link changes

module _ (d : Dimensions) (tones : Tones) (r : Restart) (cause : ℕ) (condition : Condition) (small : cause < 128) (m : Making) (x : Slot) (kept : Kept d tones m.world) (within : IsExternal d.external x) (plan : List Number) (before : Sounding d tones m.world) where
  module _ (leg : Leg) (at : leg_at m.world.legs x ≡ Some leg) where
    abbrev held : HeldLeg
    held = record { slot = x; leg = leg }

    abbrev gone : Making
    gone = making_after_all d m (remove_leg condition held)

    gone_sounds : Sounding d tones gone.world
    gone_sounds = removed_sounds d tones plan m before condition held within

    peer_restarted : (o : Option HeldLeg) → PeerIsThere d.external held o → PeerUnreleased gone.world o → Sounding d tones (making_after_all d gone (with_peer o (restart_peer tones cause condition r x.line))).world
    peer_restarted None there quiet = gone_sounds
    peer_restarted (Some other) there quiet = elim (true_or_false (restarts_slot r x.line other.slot)) [
      | inl too ↦ rw too (removed_sounds d tones plan gone gone_sounds condition other there.0.within)
      | inr not_so ↦ rw not_so (cleared_sounds d tones plan gone gone_sounds other cause there.0 small quiet)
    ]

    leg_restarted : Sounding d tones (making_after_all d m (restart_leg tones cause condition r m.world.legs (Some held))).world
    leg_restarted =
        peer_restarted (peer_of m.world.legs leg.peer) (peer_there_too d.external tones m.world held kept.1 within at)
        (peer_quiet_still d tones plan m.world held kept.1 within at gone.world None refl)

module _ (d : Dimensions) (tones : Tones) (m : Making) (x : Slot) (kept : Kept d tones m.world) (within : IsExternal d.external x) (plan : List Number) (before : Sounding d tones m.world) where
  slot_restarted : (r : Restart) → Sounding d tones (making_after_all d m (restart_slot tones r m.world.legs x)).world
  slot_restarted r = restarting.at_slot tones r m.world.legs x (λ os. Sounding d tones (making_after_all d m os).world) before
      (λ leg at. leg_restarted d tones r temporary_failure Idle (omega arith) m x kept within plan before leg at)

  module _ (leg : Leg) (at : leg_at m.world.legs x ≡ Some leg) where
    abbrev k : HeldLeg
    k = record { slot = x; leg = leg }

    abbrev SoundsBy : List Operation → Type 0
    SoundsBy os = Sounding d tones (making_after_all d m os).world

    started_sounds : leg.state ≡ active → (runs : Bool) → SoundsBy (if runs then [] else op.Await x (with_enquiry false leg) ∷ [])
    started_sounds is true = before
    started_sounds is false = performed_all d tones plan m (op.Await x (with_enquiry false leg) ∷ []) (started_may d tones m x leg kept within at plan is false) (tt, tt) before

    drop_sounds : SoundsBy (drop_leg tones m.world.legs (Some k))
    drop_sounds = by_drop d tones m x leg kept within at SoundsBy (λ talks. started_sounds talks leg.resent) (λ clears. before)
        (λ goes. leg_restarted d tones whole_line destination_out_of_order Owed (omega arith) m x kept within plan before leg at)

    digits_cleared : leg.state ≡ overlap_sending → SoundsBy (clear_with tones temporary_failure k)
    digits_cleared dials =
        cleared_sounds d tones plan m before k temporary_failure (is_there d.external tones m.world k kept.1 within at) (omega arith)
        (unreleased_by m.world x (Some leg) at (timed_elsewhere leg.state overlap_sending dials (λ e. absurd cc)))

    resent_sounds : (o : Option (List ℕ)) → ArePermitted d tones plan m (send_again k o) → SoundsBy (send_again k o)
    resent_sounds None may = before
    resent_sounds (Some octets) may = performed_all d tones plan m (send_again k (Some octets)) may (tt, tt) before

    resume_sounds : SoundsBy (resume_leg tones m.world.legs k)
    resume_sounds = by_resume d tones m x leg kept within at SoundsBy
        (λ talks. performed_all d tones plan m (enquire k) (enquired_may d tones m x leg kept within at plan talks) (tt, (tt, tt)) before) digits_cleared
        (λ clears. resent_sounds (kept_at m.world.legs x) (resent_may d tones m x leg kept within at plan)) before

  channel_sounds : leg_at m.world.legs x ≡ None → (awaited whole : Bool) → Sounding d tones (making_after_all d m (if awaited then restart_channel whole x else [])).world
  channel_sounds none true true = performed_all d tones plan m (restart_channel true x) (channel_may d tones m x kept within none plan true true) (tt, tt) before
  channel_sounds none true false = performed_all d tones plan m (restart_channel false x) (channel_may d tones m x kept within none plan true false) (tt, (tt, tt)) before
  channel_sounds none false whole = before

  rule_sounds : (whole down : Bool) → Sounding d tones (making_after_all d m ((rule_of tones whole down).does m.world.legs x)).world
  rule_sounds whole true = at_held m.world.legs x (drop_leg tones m.world.legs) (λ os. Sounding d tones (making_after_all d m os).world) (λ none. before) drop_sounds
  rule_sounds whole false = at_held m.world.legs x (resume_held tones whole m.world.legs x) (λ os. Sounding d tones (making_after_all d m os).world)
      (λ none. channel_sounds none (awaits_restart m.world.legs x) whole) resume_sounds

-- ---- a slot of a line that the exchange restarts

module _ (d : Dimensions) (tones : Tones) (m : Making) (x : Slot) (kept : Kept d tones m.world) (within : IsExternal d.external x) (plan : List Number) (before : Sounding d tones m.world) where
  confirmed_sounds : (r : Restart) → Sounding d tones (making_after_all d m (confirm_slot r m.world.legs x)).world
  confirmed_sounds r = at_confirmed r m.world.legs x (λ os. Sounding d tones (making_after_all d m os).world) before
      (λ none. performed_all d tones plan m (op.Remove x Idle ∷ []) (within, tt) (tt, tt) before)

  given_up_sounds : (condition : Condition) → Sounding d tones (making_after_all d m (give_up_slot tones condition m.world.legs x)).world
  given_up_sounds condition = at_held m.world.legs x (give_up_leg tones condition m.world.legs x) (λ os. Sounding d tones (making_after_all d m os).world)
      (λ none. performed_all d tones plan m (op.Remove x condition ∷ []) (within, tt) (tt, tt) before)
      (λ leg at. leg_restarted d tones whole_line temporary_failure condition (omega arith) m x kept within plan before leg at)

-- ---- a leg whose timer has run out

-- in disconnect indication it hears the tone of its cause, and goes on to do so
heard_before : (tones : Tones) (circuits : List Circuit) (x : Slot) (leg : Leg) (o : Option Circuit) → heard_by circuits x ≡ o → leg.state ≡ disconnect_indication → MayHear tones leg o
    → HearsTone x (tone_given tones disconnect_indication leg.cause) o
heard_before tones circuits x leg None at is may =
    let none : tone_given tones disconnect_indication leg.cause ≡ None = subst (λ (state : ℕ). tone_given tones state leg.cause ≡ None) is may.1 in
    (0, sym (ap (option_map (λ kind. Tone kind x 0)) none))
heard_before tones circuits x leg (Some (Tone kind to since)) at is may =
    let here : x ≡ to = same_slot-true x to (heard_by-stands circuits x (Tone kind to since) at).1 in
    elim may [
      | inl sounds ↦
          let given : tone_given tones disconnect_indication leg.cause ≡ Some kind = subst (λ (state : ℕ). tone_given tones state leg.cause ≡ Some kind) is sounds in
          (since, ap (λ (y : Slot). Some (Tone kind y since)) (sym here) ∙ sym (ap (option_map (λ k. Tone k x since)) given))
      | inr left ↦ let released = left.0 in absurd (grind (arith, common_steps, is, released))
    ]
heard_before tones circuits x leg (Some (Pair from to since)) at is may = let talks = may.0 in absurd (grind (arith, common_steps, is, talks))
heard_before tones circuits x leg (Some (Member room to since)) at is may = let talks = may.0 in absurd (grind (arith, common_steps, is, talks))

module _ (s : Setting) (frame : ℕ) (m : Making) (x : Slot) (kept : Kept s.dimensions s.tones m.world) (within : IsExternal s.dimensions.external x) (before : Sounding s.dimensions s.tones m.world) where
  abbrev d : Dimensions
  d = s.dimensions

  module _ (leg : Leg) (at : leg_at m.world.legs x ≡ Some leg) where
    abbrev h : HeldLeg
    h = record { slot = x; leg = leg }

    abbrev Sounds : List Operation → Type 0
    Sounds os = Sounding d s.tones (making_after_all d m os).world

    by : (os : List Operation) → ArePermitted d s.tones s.plan m os → AreHushed d s.tones m os → Sounds os
    by os may quiet = performed_all d s.tones s.plan m os may quiet before

    quiet_in : (n : ℕ) → leg.state ≡ n → n ≢ release_request → Unreleased m.world x
    quiet_in n is apart = unreleased_by m.world x (Some leg) at (timed_elsewhere leg.state n is apart)

    again_sounds : (o : Option (List ℕ)) → ArePermitted d s.tones s.plan m (send_again h o) → Sounds (send_again h o)
    again_sounds None may = before
    again_sounds (Some octets) may = by (send_again h (Some octets)) may (tt, tt)

    asked_release : leg.state ≡ disconnect_indication → SoundsByRelease s.tones x (begun m.world (in_release_request leg)) (encoding (release_for leg leg.cause)) (heard_by m.world.holding.circuits x)
    asked_release is = record {
      cause = Some leg.cause;
      own = refl;
      kept = refl;
      hears = heard_before s.tones m.world.holding.circuits x leg (heard_by m.world.holding.circuits x) refl is (kept.1.each x leg within at).hears;
    }

    then_cleared : (cause : ℕ) → cause < 128 → (o : Option Leg) (os : List Operation) → (making_after_all d m os).world.legs.held ≡ slice_set m.world.legs.held (number_of x) o → Sounds os
        → Sounding d s.tones (making_after_all d (making_after_all d m os) (clear_peer s.tones m.world.legs h cause)).world
    then_cleared cause small o os entry so_far = then_peer d s.tones s.plan m.world h kept.1 within at o cause small (making_after_all d m os) entry so_far

    both_cleared : (cause : ℕ) → cause < 128 → (n : ℕ) → leg.state ≡ n → n ≢ release_request → Sounds (clear_both s.tones m.world.legs h cause)
    both_cleared cause small n state apart =
        then_cleared cause small (Some (begun m.world (in_disconnect_indication recovery_on_timer_expiry leg))) (clear_with s.tones recovery_on_timer_expiry h) refl
        (cleared_sounds d s.tones s.plan m before h recovery_on_timer_expiry (is_there d.external s.tones m.world h kept.1 within at) (omega arith) (quiet_in n state apart))

    expired : (e : Expiry) → leg.state ≡ timed_state e → ArePermitted d s.tones s.plan m (on_expiry s.tones m.world.legs h e) → Sounds (on_expiry s.tones m.world.legs h e)
    expired expiry.Digits state may = by (clear_with s.tones invalid_number_format h) may (clear_quiet d s.tones s.plan m before h invalid_number_format within (quiet_in _ state (λ e. absurd cc)))
    expired expiry.SetupAgain state may = again_sounds (kept_at m.world.legs x) may
    expired expiry.SetupOver state may = then_cleared no_user_responding (omega arith) None (give_up h) refl (removed_sounds d s.tones s.plan m before Idle h within)
    expired expiry.Proceeding state may = both_cleared no_user_responding (omega arith) _ state (λ e. absurd cc)
    expired expiry.Alerting state may = both_cleared no_answer_from_user (omega arith) _ state (λ e. absurd cc)
    expired expiry.Outage state may = then_cleared destination_out_of_order (omega arith) None (remove_leg Owed h) refl (removed_sounds d s.tones s.plan m before Owed h within)
    expired expiry.Disconnect state may = by (ask_for_release h) may ((λ is. asked_release state), tt)
    expired expiry.ReleaseAgain state may = again_sounds (kept_at m.world.legs x) may
    expired expiry.ReleaseOver state may = removed_sounds d s.tones s.plan m before (unanswered (is_down m.world.legs x.line)) h within

  slot_expired : Sounding d s.tones (making_after_all d m (expire_slot s frame m.world.legs x)).world
  slot_expired = expiring.at_slot s frame m.world.legs x (λ os. Sounding d s.tones (making_after_all d m os).world) before
      (λ leg e at due. expired leg at e (due_state leg.state leg.resent leg.since frame s.timers e due) (expiry_may d s.tones m x leg kept within at s.plan e))

-- ---- an event

module _ (s : Setting) (w : World) (stands : CallsStand s w) where
  abbrev Now : World → Type 0
  Now v = Sounding s.dimensions s.tones v

  abbrev now : Now w
  now = sounding_of s w stands

  -- a slot that no leg holds
  vacant : (x : Slot) → is_none (leg_at w.legs x) ≡ true → Unreleased w x
  vacant x none = unreleased_by w x None (is_empty (leg_at w.legs x) none) tt

  nailed : (x y : Slot) → Fits s.dimensions.external (Nail x y) → idle w x ≡ true → idle w y ≡ true → Now (making_after s.dimensions (making_at w) (op.Pair x y)).world
  nailed x y fits idle_x idle_y =
      let at_x = both_true (is_idle w.holding.circuits x) (is_none (leg_at w.legs x)) idle_x in
      let at_y = both_true (is_idle w.holding.circuits y) (is_none (leg_at w.legs y)) idle_y in
      let can : CanPair s.dimensions w x y = record { first = fits.first; second = fits.second; apart = fits.distinct; idle_first = at_x.0; idle_second = at_y.0 } in
      Sounding-making_after s.dimensions s.tones s.plan (making_at w) (op.Pair x y) can (vacant x at_x.1, vacant y at_y.1) now

  seated : (x : Slot) (room : ℕ) → IsExternal s.dimensions.external x → idle w x ≡ true → is_full s.dimensions w ≡ false → Now (making_after s.dimensions (making_at w) (op.Seat x room)).world
  seated x room in_x idle_x free =
      let at_x = both_true (is_idle w.holding.circuits x) (is_none (leg_at w.legs x)) idle_x in
      let can : CanSeat s.dimensions w x = record { within = in_x; idle = at_x.0; free = count_by-is_member_not_full s.dimensions.bridges w.holding stands.circuits free } in
      Sounding-making_after s.dimensions s.tones s.plan (making_at w) (op.Seat x room) can (vacant x at_x.1) now

  -- a message that is sent changes nothing else
  answered : (line : ℕ) (o : Option OutgoingMessage) → Now (making_after_all s.dimensions (making_at w) (answer_back line o)).world
  answered line None = now
  answered line (Some back) = record { valid = now.valid; held = now.held; kept = now.kept; sound = now.sound }

  message : (line : ℕ) (octets : List ℕ) → IsPlanned s → Fits s.dimensions.external (Message line octets) → (r : Request) → request_of w.legs line octets ≡ r → Now (outcome_for s w line r).making.world
  message line octets planned fits (For_leg h m) is =
      let named = received_stands w.legs line octets h m is in
      let on = named.among in
      let within : IsExternal s.dimensions.external h.slot = (subst (λ n. n < s.dimensions.external) (sym on.0) fits.0, on.1) in
      act_sounds s w h stands within named.at m (act_on h.leg.state m) (Asked-act_of h.leg.state m.kind (clearing_cause m.elements) (call_state_in m.elements) (cause_fits m.elements))
      (act_may s w line octets planned fits stands h m is)
      (λ dials may. digits_sound s w now h m (unreleased_by w h.slot (Some h.leg) named.at (timed_elsewhere h.leg.state overlap_sending (eqb-true h.leg.state overlap_sending dials) (λ e. absurd cc))) within may)
  message line octets planned fits (New_call m) is = setup_sounds s w now line m (call_may s w line octets planned fits stands m is)
  message line octets planned fits (On_no_call m) is = answered line (answer_without_call m)
  message line octets planned fits (Restarts r) is = (each_below s.dimensions (restart_rule s.tones r) line w (λ a. Now a.making.world × Kept s.dimensions s.tones a.making.world) (now, (stands.circuits, stands.legs)) (λ a place small k.
      let x : Slot = record { line = line; place = place } in (
        slot_restarted s.dimensions s.tones a.making x k.1 (fits.0, small) s.plan k.0 r,
        slot_kept s.dimensions s.tones r a.making x k.1 (fits.0, small),
      )) 30 (omega arith)).0
  message line octets planned fits (Confirms r) is = (each_below s.dimensions (confirm_rule r) line w (λ a. Now a.making.world × Kept s.dimensions s.tones a.making.world) (now, (stands.circuits, stands.legs)) (λ a place small k.
      let x : Slot = record { line = line; place = place } in (
        confirmed_sounds s.dimensions s.tones a.making x k.1 (fits.0, small) s.plan k.0 r,
        confirm_kept s.dimensions s.tones r a.making x k.1 (fits.0, small),
      )) 30 (omega arith)).0
  message line octets planned fits Unanswered is = now

  passed : (input : Input) → Now (pass w input)
  passed input = record { valid = valid-frame s.dimensions.bridges w.holding stands.circuits; held = now.held; kept = now.kept; sound = now.sound }

  turned : (input : Input) → Now (next s w (Frame input))
  turned input =
      let f : ℕ = w.holding.next in
      (each_line s f (pass w input) (λ a. Now a.making.world × Kept s.dimensions s.tones a.making.world) (passed input, pass_kept s w stands.circuits stands.legs input) (λ a line small k.
      let x : Slot = slot_looked_at f line in
      let within = place_within s.dimensions.external f line small in
      (slot_expired s f a.making x k.1 within k.0, slot_fine s f a.making x k.1 within)) s.dimensions.external (omega arith)).0

  linked : (down : Bool) (line : ℕ) → line < s.dimensions.external → Now (outcome_of_link s.dimensions s.tones down line w).making.world
  linked down line below = linked_by s.dimensions s.tones down line w Now (λ whole.
      (each_below s.dimensions (rule_of s.tones whole down) line (with_line w line down) (λ a. Now a.making.world × Kept s.dimensions s.tones a.making.world)
      (record { valid = now.valid; held = now.held; kept = now.kept; sound = now.sound }, linked_kept s.dimensions s.tones w line down (stands.circuits, stands.legs)) (λ a place small k.
      let x : Slot = record { line = line; place = place } in (
        rule_sounds s.dimensions s.tones a.making x k.1 (below, small) s.plan k.0 whole down,
        rule_kept s.dimensions s.tones a.making x k.1 (below, small) whole down,
      )) 30 (omega arith)).0)

  line_restarted : (line : ℕ) → line < s.dimensions.external → Now (outcome_of_line_restart s.dimensions s.tones line w).making.world
  line_restarted line below =
      let condition = unanswered (is_down w.legs line) in
      line_restarted_by s.dimensions s.tones line w Now
      (each_below s.dimensions (give_up_rule s.tones condition) line w (λ a. Now a.making.world × Kept s.dimensions s.tones a.making.world) (now, (stands.circuits, stands.legs)) (λ a place small k.
      let x : Slot = record { line = line; place = place } in (
        given_up_sounds s.dimensions s.tones a.making x k.1 (below, small) s.plan k.0 condition,
        give_up_kept s.dimensions s.tones condition a.making x k.1 (below, small),
      )) 30 (omega arith)).0

  pub event_sounds : (e : Event) → IsPlanned s → Fits s.dimensions.external e → Now (next s w e)
  event_sounds (Nail x y) planned fits = elim (true_or_false (may_nail w x y)) [
    | inl may ↦ let both = both_true (idle w x) (idle w y) may in rw may (nailed x y fits both.0 both.1)
    | inr not_now ↦ rw not_now now
  ]
  event_sounds (Seat x room) planned fits = elim (true_or_false (may_seat s.dimensions w x)) [
    | inl may ↦ let both = both_true (idle w x) (not (is_full s.dimensions w)) may in rw may (seated x room fits both.0 (not_true (is_full s.dimensions w) both.1))
    | inr not_now ↦ rw not_now now
  ]
  event_sounds (Free x) planned fits = elim (true_or_false (is_nailed w x)) [
    | inl may ↦
        let at_x = both_true (not (is_idle w.holding.circuits x)) (is_none (leg_at w.legs x)) may in
        rw may (Sounding-making_after s.dimensions s.tones s.plan (making_at w) (op.Clear x) fits (vacant x at_x.1) now)
    | inr not_now ↦ rw not_now now
  ]
  event_sounds (Message line octets) planned fits = message line octets planned fits (request_of w.legs line octets) refl
  event_sounds (LinkUp line) planned fits = linked false line fits
  event_sounds (LinkDown line) planned fits = linked true line fits
  event_sounds (RestartLine line) planned fits = line_restarted line fits
  event_sounds (Frame input) planned fits = turned input

-- ---- what holds of it in a world

pub each_release_sounds : (s : Setting) (w : World) → CallsStand s w → EachReleaseSounds s.dimensions.external s.tones w
each_release_sounds s w stands x leg in_x at is =
    let keeps = each_is_kept s w stands x leg in_x at (rw is refl) in
    (keeps.0, keeps.1, stands.releases x leg keeps.0 in_x at is keeps.1)

-- before the first event no leg is there
pub none_release : (d : Dimensions) (tones : Tones) → ReleasesSound d.external tones (start d)
none_release d tones x leg octets in_x at is keeps = let e : None ≡ Some leg = sym (get_or-bare Leg (30 * d.external) (number_of x)) ∙ at in absurd cc

-- a RELEASE with a cause is another message than one without
pub told_apart : (leg : Leg) (cause : ℕ) → encoding (release_with leg None) ≡ encoding (release_with leg (Some cause)) → ⊥
told_apart leg cause same = let short : ℕ = 5 in let longer : short ≡ 9 = ap length same in cc
