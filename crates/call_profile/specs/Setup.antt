-- SETUP: the checks in their order, and the choice of slots. Source: this project's profile of ITU-T Q.931 (05/98), 5.1
-- and 5.2.
use Rattle.std.specs.Prelude.{ℕ, ◌&&◌, Bool, true, false, List, [], ◌∷◌, ◌++◌, Option, Some, None, is_none, not, option_map, option_and_then, unwrap_or, if◌then◌else◌}
use Rattle.std.specs.Option.{option_or}
use Rattle.std.specs.List.{list_all}
use Rattle.circuit_model.specs.declared.channel.Slot.{Slot}
use Rattle.circuit_model.specs.Channels.{place_of, channel_at}
use Rattle.q931_codec.specs.declared.bearer.BearerCapability.{BearerCapability}
use Rattle.q931_codec.specs.declared.bearer.BearerCapability.TheVariants as bearer
use Rattle.q931_codec.specs.declared.contents.ChannelIdentification.{ChannelIdentification}
use Rattle.q931_codec.specs.declared.contents.ChannelIdentification.TheVariants.{Any, Preferred, Exclusive, Invalid}
use Rattle.q931_codec.specs.declared.kind.MessageKind.TheVariants as kind
use Rattle.q931_codec.specs.declared.message.Message.{Message}
use Rattle.q931_codec.specs.CallStates.{overlap_sending, outgoing_call_proceeding, call_present, active}
use Rattle.q931_codec.specs.Causes.{unallocated_number, destination_out_of_order, invalid_number_format, no_channel_available, switching_equipment_congestion, requested_channel_not_available, bearer_capability_not_implemented, mandatory_element_missing, invalid_element_contents}
use Rattle.q931_codec.specs.Contents.{channel_in, bearer_in, bearer_of, is_called_number, called_received, called_in, complete_in, dialled_digits, calling_in, low_layer_in, high_layer_in}
use Rattle.q931_codec.specs.Outgoing.{OutgoingMessage, bare}
use Rattle.call_states.specs.declared.leg.Leg.{Leg}
use Rattle.call_states.specs.declared.leg.Peer.{Peer}
use Rattle.call_states.specs.declared.leg.Peer.TheVariants as peer
use Rattle.call_states.specs.declared.leg.Side.TheVariants.{Caller, Called}
use Rattle.call_states.specs.declared.pending.Pending.{Pending}
use Rattle.number_plan.specs.declared.plan.Number.{Number}
use Rattle.number_plan.specs.declared.target.Found.{Found}
use Rattle.number_plan.specs.declared.target.Found.TheVariants.{Line, Lines, Room, More, Nothing}
use Rattle.number_plan.specs.Plan.{found_for}
use Rattle.call_profile.specs.Acts.{message_to, answered}
use Rattle.call_profile.specs.Course.{Course, only}
use Rattle.call_profile.specs.IdleSlots.{idle, lowest_idle, lowest_called, hunted}
use Rattle.call_profile.specs.Legs.{Legs, is_down, lowest_free_reference}
use Rattle.call_profile.specs.Operations.{Operation, Seat, Put, Wait, Expect, Send}
use Rattle.exchange_events.specs.Sizes.{Setting, Dimensions}
use Rattle.call_profile.specs.World.{World, is_full}

-- ---- the fields of a SETUP

-- its bearer capability, and the digits that it dials, if all of them are digits
abbrev pub bearer_asked : Message → Option BearerCapability
bearer_asked m = option_map bearer_of (bearer_in m.elements)

abbrev pub digits_in : Message → Option (List ℕ)
digits_in m = dialled_digits (called_in m.elements)

-- the target of the digits of a called party number in the plan
abbrev pub target_dialled : List Number → List ℕ → Found
target_dialled plan called = found_for plan (unwrap_or (dialled_digits called) [])

abbrev pub target_of : Setting → Message → Found
target_of s m = target_dialled s.plan (called_in m.elements)

-- the contents of the elements that are passed on to the called user; a SETUP and a pending number give the same value,
-- so that one definition accepts both
abbrev pub call_asked : Message → Pending
call_asked m = record {
  bearer = unwrap_or (bearer_in m.elements) [];
  calling = calling_in m.elements;
  called = called_in m.elements;
  low = low_layer_in m.elements;
  high = high_layer_in m.elements;
}

-- ---- the choice of slots

-- the slot of a line with the channel of a channel identification
abbrev pub slot_of : ℕ → ℕ → Option Slot
slot_of line channel = option_map (λ place. record { line = line; place = place }) (place_of channel)

abbrev pub slot_asked : ℕ → Option ChannelIdentification → Option Slot
slot_asked line None = None
slot_asked line (Some Any) = None
slot_asked line (Some (Preferred channel)) = slot_of line channel
slot_asked line (Some (Exclusive channel)) = slot_of line channel
slot_asked line (Some Invalid) = None

abbrev pub if_idle : World → Slot → Option Slot
if_idle w x = if idle w x then Some x else None

-- the caller's slot is the requested one if it is idle, otherwise the line's lowest idle slot; an exclusive channel
-- needs no case, since its check comes first
abbrev pub caller_slot : World → ℕ → Option ChannelIdentification → Option Slot
caller_slot w line channel = option_or (option_and_then (if_idle w) (slot_asked line channel)) (lowest_idle w line)

-- the called slot is the lowest idle slot, other than the caller's, of the called line, or of the first called line
-- that has one; a line whose data link is down has none
abbrev pub called_slot : World → Slot → Found → Option Slot
called_slot w caller (Line line) = lowest_called w caller line
called_slot w caller (Lines lines) = hunted w caller lines
called_slot w caller _ = None

-- ---- the checks: whether each fails, and the cause with which the SETUP is then refused

abbrev pub Check : Type 0
Check = Bool × ℕ

abbrev pub is_invalid : Option ChannelIdentification → Bool
is_invalid (Some Invalid) = true
is_invalid _ = false

-- the checks of the elements: a bearer that this exchange carries, a channel that can be read, and a number of digits
abbrev pub is_unreadable : Option BearerCapability → Bool
is_unreadable (Some bearer.Invalid) = true
is_unreadable _ = false

abbrev pub is_not_carried : Option BearerCapability → Bool
is_not_carried (Some bearer.NotCarried) = true
is_not_carried _ = false

-- without a called party number the digits are still to come, unless the number is complete
abbrev pub lacks_number : Option (List ℕ) → Bool → Bool
lacks_number None complete = complete
lacks_number (Some contents) complete = not (is_called_number contents)

abbrev pub element_checks : Message → List Check
element_checks m =
    (is_none (bearer_in m.elements), mandatory_element_missing)
    ∷ (is_unreadable (bearer_asked m), invalid_element_contents)
    ∷ (is_not_carried (bearer_asked m), bearer_capability_not_implemented)
    ∷ (is_invalid (channel_in m.elements), invalid_element_contents)
    ∷ (lacks_number (called_received m.elements) (complete_in m.elements), invalid_number_format)
    ∷ (is_none (digits_in m), invalid_number_format)
    ∷ []

abbrev pub is_unknown : Found → Bool
is_unknown Nothing = true
is_unknown _ = false

abbrev pub is_incomplete : Found → Bool
is_incomplete More = true
is_incomplete _ = false

-- the checks of the number in the plan; an incomplete number is refused if no further digits come
abbrev pub number_checks : Found → Bool → List Check
number_checks target complete =
    (is_unknown target, unallocated_number)
    ∷ (is_incomplete target && complete, invalid_number_format)
    ∷ []

-- the slot of the one requested channel is not idle
abbrev pub is_taken : World → ℕ → Option ChannelIdentification → Bool
is_taken w line (Some (Exclusive channel)) = is_none (option_and_then (if_idle w) (slot_of line channel))
is_taken w line _ = false

-- the data link of the called line, or of each of the called lines, is down
abbrev pub is_cut_off : World → Found → Bool
is_cut_off w (Line line) = is_down w.legs line
is_cut_off w (Lines lines) = list_all (is_down w.legs) lines
is_cut_off w _ = false

-- the called line, or each of the called lines, has no idle slot other than the caller's, or its data link is down
abbrev pub is_line_full : World → Option Slot → Found → Bool
is_line_full w caller (Line line) = is_none (option_and_then (λ x. lowest_called w x line) caller)
is_line_full w caller (Lines lines) = is_none (option_and_then (λ x. hunted w x lines) caller)
is_line_full w caller _ = false

-- the number is a room's, and every port is taken
abbrev pub is_room_full : Dimensions → World → Found → Bool
is_room_full d w (Room room) = is_full d w
is_room_full d w _ = false

-- whether a called line's data link is up, and whether there is a slot for the called side, or a port
abbrev pub called_checks : Dimensions → World → Option Slot → Found → List Check
called_checks d w caller target =
    (is_cut_off w target, destination_out_of_order)
    ∷ (is_line_full w caller target, no_channel_available)
    ∷ (is_room_full d w target, switching_equipment_congestion)
    ∷ []

-- whether there are slots for the call, and a port
abbrev pub slot_checks : Dimensions → World → ℕ → Option ChannelIdentification → Found → List Check
slot_checks d w line channel target =
    let caller = caller_slot w line channel in
    (is_taken w line channel, requested_channel_not_available)
    ∷ (is_none caller, no_channel_available)
    ∷ called_checks d w caller target

-- the 13 checks in their order
abbrev pub checks : Setting → World → ℕ → Message → List Check
checks s w line m = element_checks m ++ number_checks (target_of s m) (complete_in m.elements) ++ slot_checks s.dimensions w line (channel_in m.elements) (target_of s m)

-- the first check that fails decides
abbrev pub first_cause : List Check → Option ℕ
first_cause [] = None
first_cause ((fails, cause) ∷ others) = if fails then Some cause else first_cause others

abbrev pub refusal : Setting → World → ℕ → Message → Option ℕ
refusal s w line m = first_cause (checks s w line m)

-- ---- the operations of an accepted call. A caller gets its channel in the first reply to its SETUP (5.1.2, 5.1.3),
-- and in no later one

-- a leg of a new call, before it holds a slot
abbrev pub caller_leg : ℕ → ℕ → Peer → Leg
caller_leg state reference peer = record { state = state; reference = reference; side = Caller; peer = peer; cause = 0; since = 0; resent = false; enquired = false }

abbrev pub called_leg : ℕ → Slot → Leg
called_leg reference caller = record { state = call_present; reference = reference; side = Called; peer = peer.Leg caller; cause = 0; since = 0; resent = false; enquired = false }

-- a message with the channel of its user's call
abbrev pub with_channel : Slot → OutgoingMessage → OutgoingMessage
with_channel x message = record message { channel = Some (channel_at x.place) }

-- the flag is true for the first reply to the SETUP
abbrev pub call_proceeding : Bool → Slot → Leg → OutgoingMessage
call_proceeding first x leg = if first then with_channel x (message_to leg kind.CallProceeding) else message_to leg kind.CallProceeding

-- SETUP ACKNOWLEDGE: requests further digits from the caller
abbrev pub setup_acknowledge : Slot → Leg → OutgoingMessage
setup_acknowledge x leg = with_channel x (message_to leg kind.SetupAcknowledge)

-- the SETUP to the called user
abbrev pub offer : Pending → Slot → Leg → OutgoingMessage
offer asked y leg = record (message_to leg kind.Setup) {
  complete = true;
  bearer = asked.bearer;
  channel = Some (channel_at y.place);
  calling = asked.calling;
  called = asked.called;
  low = asked.low;
  high = asked.high;
}

-- a call to a line: the caller waits, and the called user is offered the call
abbrev pub call_line : Bool → ℕ → Pending → Slot → Slot → ℕ → List Operation
call_line first own asked x y reference =
    let caller = caller_leg outgoing_call_proceeding own (peer.Leg y) in
    let called = called_leg reference x in
    Put x caller
    ∷ Send x.line (call_proceeding first x caller)
    ∷ Expect y called (offer asked y called)
    ∷ []

-- a call to a room is answered at once
abbrev pub call_room : Bool → Legs → ℕ → Slot → ℕ → List Operation
call_room first legs own x room =
    let caller = caller_leg active own (peer.Room room) in
    answered legs x caller
    ∷ Seat x room
    ∷ Send x.line (call_proceeding first x caller)
    ∷ Send x.line (message_to caller kind.Connect)
    ∷ []

-- an incomplete number: the caller's leg waits for further digits, which are requested once
abbrev pub ask_for_digits : Bool → Slot → Leg → List Operation
ask_for_digits true x leg = Send x.line (setup_acknowledge x leg) ∷ []
ask_for_digits false x leg = []

abbrev pub await_digits : Bool → ℕ → Pending → Slot → List Operation
await_digits first own asked x =
    let caller = caller_leg overlap_sending own peer.Alone in
    Wait x caller asked
    ∷ ask_for_digits first x caller

abbrev pub call : Bool → World → ℕ → Pending → Slot → Found → Option Slot → List Operation
call first w own asked x (Line line) (Some y) = call_line first own asked x y (lowest_free_reference w.legs line)
call first w own asked x (Lines lines) (Some y) = call_line first own asked x y (lowest_free_reference w.legs y.line)
call first w own asked x (Room room) called = call_room first w.legs own x room
call first w own asked x More called = await_digits first own asked x
call first w own asked x _ _ = []

-- the call of a caller at a slot, with these contents and this target
abbrev pub accept : Bool → World → ℕ → Pending → Slot → Found → List Operation
accept first w own asked x target = call first w own asked x target (called_slot w x target)

-- ---- the exchange state after a SETUP

-- RELEASE COMPLETE, to the side that chose the call reference
abbrev pub release_complete : ℕ → ℕ → OutgoingMessage
release_complete reference cause = record (bare true reference kind.ReleaseComplete) { cause = Some cause }

abbrev pub refuse : ℕ → ℕ → ℕ → List Operation
refuse line reference cause = Send line (release_complete reference cause) ∷ []

-- an accepted SETUP has a slot for the caller
abbrev pub accept_at : Setting → World → Message → Option Slot → List Operation
accept_at s w m None = []
accept_at s w m (Some x) = accept true w m.reference (call_asked m) x (target_of s m)

abbrev pub setup : Setting → World → ℕ → Message → Option ℕ → List Operation
setup s w line m (Some cause) = refuse line m.reference cause
setup s w line m None = accept_at s w m (caller_slot w line (channel_in m.elements))

abbrev pub course_of_setup : Setting → World → ℕ → Message → Course
course_of_setup s w line m = only (setup s w line m (refusal s w line m))
