-- The operations of each act on the leg that a message is for, and on its peer. Source: this project's profile of basic
-- call control (ITU-T Q.931 (05/98), 5.1 to 5.3).
use Rattle.std.specs.Prelude.{ℕ, Bool, List, [], ◌∷◌, Option, Some, None, is_some, if◌then◌else◌}
use Rattle.circuit_model.specs.declared.channel.Slot.{Slot}
use Rattle.circuit_model.specs.declared.circuit.Kind.{Kind}
use Rattle.q931_codec.specs.declared.kind.MessageKind.{MessageKind}
use Rattle.q931_codec.specs.declared.kind.MessageKind.TheVariants as kind
use Rattle.q931_codec.specs.CallStates.{call_delivered, call_received, active, disconnect_indication, release_request}
use Rattle.q931_codec.specs.Outgoing.{OutgoingMessage, bare}
use Rattle.call_states.specs.declared.leg.Leg.{Leg}
use Rattle.call_states.specs.declared.leg.Peer.{Peer}
use Rattle.call_states.specs.declared.leg.Peer.TheVariants as peer
use Rattle.call_states.specs.Status.{flag_to}
use Rattle.tone_rules.specs.declared.tones.Tones.{Tones}
use Rattle.tone_rules.specs.CallTones.{tone_given}
use Rattle.call_states.specs.declared.condition.Condition.{Condition}
use Rattle.call_states.specs.declared.condition.Condition.TheVariants.{Idle}
use Rattle.call_states.specs.declared.leg.HeldLeg.{HeldLeg}
use Rattle.call_profile.specs.Legs.{Legs, held_at, is_down}
use Rattle.call_profile.specs.Operations.{Operation, Clear, Pair, Sound, Put, Expect, Await, Remove, Send}

-- ---- messages to the user of a leg

-- a message of this type without elements
abbrev pub message_to : Leg → MessageKind → OutgoingMessage
message_to leg kind = bare (flag_to leg.side) leg.reference kind

abbrev pub disconnect : Leg → ℕ → OutgoingMessage
disconnect leg cause = record (message_to leg kind.Disconnect) { cause = Some cause }

abbrev pub send_to : HeldLeg → OutgoingMessage → Operation
send_to h message = Send h.slot.line message

-- the same message, with a progress indicator if and only if the slot of its user gets a tone
abbrev pub with_progress : Option Kind → OutgoingMessage → OutgoingMessage
with_progress tone message = record message { progress = is_some tone }

-- ---- legs in another state

abbrev pub in_state : ℕ → Leg → Leg
in_state state leg = record leg { state = state }

-- a leg that is being cleared has no peer
abbrev pub in_release_request : Leg → Leg
in_release_request leg = record leg { state = release_request; peer = peer.Alone }

-- the user of an active leg was sent STATUS ENQUIRY, or has reported its state
abbrev pub with_enquiry : Bool → Leg → Leg
with_enquiry enquired leg = record leg { enquired = enquired }

abbrev pub in_disconnect_indication : ℕ → Leg → Leg
in_disconnect_indication cause leg = record leg { state = disconnect_indication; peer = peer.Alone; cause = cause }

-- the tone that the slot of a leg gets, by its state and the cause with which it was cleared, if the trace gives it
abbrev pub tone_of : Tones → Leg → Option Kind
tone_of tones leg = tone_given tones leg.state leg.cause

-- ---- the peer

-- the other leg of the call, if there is one, and its operations
abbrev pub peer_of : Legs → Peer → Option HeldLeg
peer_of legs peer.Alone = None
peer_of legs (peer.Leg y) = held_at legs y
peer_of legs (peer.Room room) = None

abbrev pub with_peer : Option HeldLeg → (HeldLeg → List Operation) → List Operation
with_peer None does = []
with_peer (Some h) does = does h

-- the other leg of the call is cleared with a cause, and its user may hear the tone of the cause
abbrev pub clear_with : Tones → ℕ → HeldLeg → List Operation
clear_with tones cause h =
    let tone = tone_of tones (in_disconnect_indication cause h.leg) in
    Clear h.slot
    ∷ Put h.slot (in_disconnect_indication cause h.leg)
    ∷ Sound h.slot tone
    ∷ send_to h (with_progress tone (disconnect h.leg cause))
    ∷ []

-- ---- the acts

-- the called user is being alerted; the caller is sent the same, and may hear ringing tone; its slot is silent until
-- then, so nothing is cleared first
abbrev pub on_alerting : Tones → HeldLeg → HeldLeg → List Operation
on_alerting tones h caller =
    let tone = tone_of tones (in_state call_delivered caller.leg) in
    Put h.slot (in_state call_received h.leg)
    ∷ Put caller.slot (in_state call_delivered caller.leg)
    ∷ Sound caller.slot tone
    ∷ send_to caller (with_progress tone (message_to caller.leg kind.Alerting))
    ∷ []

-- the leg is in active from now on; if the data link of its line is down, T309 starts (5.8.9)
abbrev pub answered : Legs → Slot → Leg → Operation
answered legs x leg = if is_down legs x.line then Await x leg else Put x leg

-- the called user has answered: the caller's slot is cleared of its tone, and the two slots are connected
abbrev pub on_connect : Legs → HeldLeg → HeldLeg → List Operation
on_connect legs h caller =
    Clear caller.slot
    ∷ Pair caller.slot h.slot
    ∷ answered legs h.slot (in_state active h.leg)
    ∷ answered legs caller.slot (in_state active caller.leg)
    ∷ send_to h (message_to h.leg kind.ConnectAcknowledge)
    ∷ send_to caller (message_to caller.leg kind.Connect)
    ∷ []

-- the user of the leg has requested that the call be cleared, by DISCONNECT
abbrev pub on_disconnect : HeldLeg → List Operation
on_disconnect h =
    Clear h.slot
    ∷ Expect h.slot (in_release_request h.leg) (message_to h.leg kind.Release)
    ∷ []

-- the user of the leg has released its channel, and its call reference is released
abbrev pub on_release : HeldLeg → List Operation
on_release h =
    Clear h.slot
    ∷ Remove h.slot Idle
    ∷ send_to h (message_to h.leg kind.ReleaseComplete)
    ∷ []

-- the leg is removed, and every circuit that uses its slot; its channel is in this condition
abbrev pub remove_leg : Condition → HeldLeg → List Operation
remove_leg condition h =
    Clear h.slot
    ∷ Remove h.slot condition
    ∷ []

-- the user of the leg has released its call reference
abbrev pub on_release_complete : HeldLeg → List Operation
on_release_complete h = remove_leg Idle h
