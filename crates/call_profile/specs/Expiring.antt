-- The operations of a timer's expiry, and the turn of a frame: ITU-T Q.931 (05/98), 9.1, table 9-1, with 5.1.3 (T302),
-- 5.2.5.4 (T301, T303, T310), 5.3 (T305, T308) and 5.8.9 (T309). The frame in which a leg is examined, and the clearing
-- of the rest of its call, are this project's profile.
use Rattle.std.specs.Prelude.{ℕ, zero, suc, ◌%◌, List, [], ◌∷◌, ◌++◌, Option, Some, None, option_and_then, option_map, unwrap_or}
use Rattle.circuit_model.specs.declared.channel.Slot.{Slot}
use Rattle.circuit_model.specs.FrameInput.{Input}
use Rattle.q931_codec.specs.declared.kind.MessageKind.TheVariants as kind
use Rattle.q931_codec.specs.CallStates.{overlap_sending, call_present, call_received, incoming_call_proceeding, active, disconnect_indication, release_request}
use Rattle.q931_codec.specs.Causes.{destination_out_of_order, invalid_number_format, no_answer_from_user, no_user_responding, recovery_on_timer_expiry}
use Rattle.q931_codec.specs.Outgoing.{OutgoingMessage}
use Rattle.call_timers.specs.Expiries.{due}
use Rattle.call_timers.specs.declared.expiry.Expiry.{Expiry}
use Rattle.call_timers.specs.declared.expiry.Expiry.TheVariants as expiry
use Rattle.call_timers.specs.declared.timers.Timers.{Timers}
use Rattle.call_states.specs.declared.condition.Condition.TheVariants.{Idle, Owed}
use Rattle.call_states.specs.Conditions.{unanswered}
use Rattle.call_states.specs.declared.leg.HeldLeg.{HeldLeg}
use Rattle.call_states.specs.declared.leg.Leg.{Leg}
use Rattle.tone_rules.specs.declared.tones.Tones.{Tones}
use Rattle.exchange_events.specs.Sizes.{Setting}
use Rattle.call_profile.specs.Acts.{message_to, send_to, in_release_request, peer_of, with_peer, clear_with, remove_leg}
use Rattle.call_profile.specs.Legs.{Legs, kept_at, held_at, is_down}
use Rattle.call_profile.specs.Operations.{Operation, Clear, Expect, Repeat, Remove, making_at}
use Rattle.call_profile.specs.Restarts.{MessageOutcome, outcome_then}
use Rattle.call_profile.specs.World.{World, pass}

-- ---- the operations of each expiry

abbrev pub release_for : Leg → ℕ → OutgoingMessage
release_for leg cause = record (message_to leg kind.Release) { cause = Some cause }

abbrev pub release_complete_for : Leg → ℕ → OutgoingMessage
release_complete_for leg cause = record (message_to leg kind.ReleaseComplete) { cause = Some cause }

-- the stored message of a leg is retransmitted to its user
abbrev pub send_again : HeldLeg → Option (List ℕ) → List Operation
send_again h None = []
send_again h (Some octets) = Repeat h octets ∷ []

-- the called user did not answer the SETUP: its leg is removed
abbrev pub give_up : HeldLeg → List Operation
give_up h = Clear h.slot ∷ Remove h.slot Idle ∷ send_to h (release_complete_for h.leg recovery_on_timer_expiry) ∷ []

-- the user did not release the call: it is sent RELEASE with the cause with which it was cleared, and still hears its
-- tone
abbrev pub ask_for_release : HeldLeg → List Operation
ask_for_release h = Expect h.slot (in_release_request h.leg) (release_for h.leg h.leg.cause) ∷ []

-- the caller is cleared, because the called user does not respond or does not answer
abbrev pub clear_peer : Tones → Legs → HeldLeg → ℕ → List Operation
clear_peer tones legs h cause = with_peer (peer_of legs h.leg.peer) (clear_with tones cause)

-- the called user did not answer the SETUP, which was sent twice
abbrev pub setup_over : Tones → Legs → HeldLeg → List Operation
setup_over tones legs h = give_up h ++ clear_peer tones legs h no_user_responding

-- both legs are cleared, and the caller with this cause
abbrev pub clear_both : Tones → Legs → HeldLeg → ℕ → List Operation
clear_both tones legs h cause = clear_with tones recovery_on_timer_expiry h ++ clear_peer tones legs h cause

-- the data link of the leg's line did not come up again: the leg is removed, its user is owed a RESTART, and the rest of
-- its call is cleared
abbrev pub outage_over : Tones → Legs → HeldLeg → List Operation
outage_over tones legs h = remove_leg Owed h ++ clear_peer tones legs h destination_out_of_order

-- the user did not reply to RELEASE, which was sent twice: the leg is removed; the establishment of the data link of its
-- line sends RESTART (5.5), which its user is owed if the link is down
abbrev pub release_over : Legs → HeldLeg → List Operation
release_over legs h = remove_leg (unanswered (is_down legs h.slot.line)) h

abbrev pub on_expiry : Tones → Legs → HeldLeg → Expiry → List Operation
on_expiry tones legs h expiry.Digits = clear_with tones invalid_number_format h
on_expiry tones legs h expiry.SetupAgain = send_again h (kept_at legs h.slot)
on_expiry tones legs h expiry.SetupOver = setup_over tones legs h
on_expiry tones legs h expiry.Proceeding = clear_both tones legs h no_user_responding
on_expiry tones legs h expiry.Alerting = clear_both tones legs h no_answer_from_user
on_expiry tones legs h expiry.Outage = outage_over tones legs h
on_expiry tones legs h expiry.Disconnect = ask_for_release h
on_expiry tones legs h expiry.ReleaseAgain = send_again h (kept_at legs h.slot)
on_expiry tones legs h expiry.ReleaseOver = release_over legs h

-- the state of the timer
abbrev pub timed_state : Expiry → ℕ
timed_state expiry.Digits = overlap_sending
timed_state expiry.SetupAgain = call_present
timed_state expiry.SetupOver = call_present
timed_state expiry.Proceeding = incoming_call_proceeding
timed_state expiry.Alerting = call_received
timed_state expiry.Outage = active
timed_state expiry.Disconnect = disconnect_indication
timed_state expiry.ReleaseAgain = release_request
timed_state expiry.ReleaseOver = release_request

-- the cause of the record of the call that an expiry ends: the user was alerted, or did not respond, or its data link
-- is down
abbrev pub cause_of_expiry : Expiry → ℕ
cause_of_expiry expiry.Alerting = no_answer_from_user
cause_of_expiry expiry.Outage = destination_out_of_order
cause_of_expiry _ = no_user_responding

-- ---- a leg, in a frame

abbrev pub due_of : Timers → ℕ → Leg → Option Expiry
due_of timers frame leg = due leg.state leg.resent leg.since frame timers

abbrev pub if_due : Tones → Legs → HeldLeg → Option Expiry → List Operation
if_due tones legs h None = []
if_due tones legs h (Some e) = on_expiry tones legs h e

abbrev pub expire_leg : Setting → ℕ → Legs → Option HeldLeg → List Operation
expire_leg s frame legs None = []
expire_leg s frame legs (Some h) = if_due s.tones legs h (due_of s.timers frame h.leg)

abbrev pub expire_slot : Setting → ℕ → Legs → Slot → List Operation
expire_slot s frame legs x = expire_leg s frame legs (held_at legs x)

-- the cause of the records of an expiry, if one is due; otherwise nothing is recorded, and any cause would do
abbrev pub cause_if_due : Option Expiry → ℕ
cause_if_due e = unwrap_or (option_map cause_of_expiry e) no_user_responding

abbrev pub cause_at : Setting → ℕ → Legs → Slot → ℕ
cause_at s frame legs x = cause_if_due (option_and_then (λ h. due_of s.timers frame h.leg) (held_at legs x))

-- ---- a frame's turn

-- each frame examines the legs of one place, so each leg is examined in every 30th frame
abbrev pub slot_looked_at : ℕ → ℕ → Slot
slot_looked_at frame line = record { line = line; place = frame % 30 }

abbrev pub outcome_on_line : Setting → ℕ → ℕ → MessageOutcome → MessageOutcome
outcome_on_line s frame line a =
    let legs = a.making.world.legs in
    let x = slot_looked_at frame line in
    outcome_then s.dimensions (cause_at s frame legs x) a (expire_slot s frame legs x)

-- the first n lines, lowest first, each in the exchange state after those before it
unfoldable pub outcome_of_lines : Setting → ℕ → World → ℕ → MessageOutcome
outcome_of_lines s frame w zero = record { making = making_at w; recorded = [] }
outcome_of_lines s frame w (suc line) = outcome_on_line s frame line (outcome_of_lines s frame w line)

-- the frame passes, and then the legs of its place are examined
abbrev pub outcome_of_frame : Setting → World → Input → MessageOutcome
outcome_of_frame s w input = outcome_of_lines s w.holding.next (pass w input) s.dimensions.external
