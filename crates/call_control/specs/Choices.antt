-- The choice of slots for a new call, and the operations that follow. Source: this project.
use Rattle.std.specs.Prelude.{◌≡◌, ℕ, ◌<◌, ◌&&◌, not, Bool, true, List, ◌∷◌, ◌++◌, Option, Some, None, Result, Ok, Err, if◌then◌else◌}
use Rattle.std.specs.List.{list_all}
use Rattle.circuit_model.specs.declared.channel.Slot.{Slot}
use Rattle.circuit_model.specs.Circuits.{same_slot}
use Rattle.circuit_model.specs.Extent.{IsExternal}
use Rattle.number_plan.specs.declared.target.Found.{Found}
use Rattle.number_plan.specs.declared.target.Found.TheVariants.{Line, Lines, Room, More, Nothing}
use Rattle.q931_codec.specs.declared.message.Message.{Message}
use Rattle.q931_codec.specs.Contents.{complete_in}
use Rattle.q931_codec.specs.Causes.{destination_out_of_order, invalid_number_format, no_channel_available, switching_equipment_congestion, unallocated_number}
use Rattle.q931_codec.specs.Outgoing.{encoding}
use Rattle.call_states.specs.Status.{status}
use Rattle.call_states.specs.declared.leg.Leg.{Leg}
use Rattle.call_states.specs.declared.leg.HeldLeg.{HeldLeg}
use Rattle.call_states.specs.declared.pending.Pending.{Pending}
use Rattle.call_profile.specs.ActCourse.{course_of_report}
use Rattle.call_profile.specs.Course.{Course, nothing}
use Rattle.exchange_events.specs.declared.signal.Signal.{Signal}
use Rattle.circuit_map.specs.Connections.{Connections}
use Rattle.call_control.specs.declared.setup_checks.CalledSide.{CalledSide}
use Rattle.call_control.specs.declared.setup_checks.CalledSide.TheVariants as side
use Rattle.call_profile.specs.IdleSlots.{idle, lowest_called, hunted}
use Rattle.call_profile.specs.Legs.{Legs, lowest_free_reference}
use Rattle.call_profile.specs.Operations.{Operation}
use Rattle.exchange_events.specs.Sizes.{Dimensions, Setting}
use Rattle.exchange_events.specs.Sound.{line_exists}
use Rattle.call_profile.specs.Setup.{Check, is_cut_off, await_digits, call_line, call_proceeding, call_room, number_checks, called_checks}
use Rattle.call_profile.specs.Permitted.{CanSeat}
use Rattle.call_control.specs.Standing.{Holds}
use Rattle.call_profile.specs.World.{World, is_full}

-- each called line is one of the `external` lines
abbrev pub IsReached : ℕ → Found → Type 0
IsReached external (Line line) = line < external
IsReached external (Lines lines) = list_all (line_exists external) lines ≡ true
IsReached external (Room room) = Unit {0}
IsReached external More = Unit {0}
IsReached external Nothing = Unit {0}

-- whether a slot is idle and is not this one
abbrev pub idle_beside : World → Slot → Slot → Bool
idle_beside w x y = idle w y && not (same_slot x y)

-- the called side at the slot that was found, or the cause if there is none
abbrev pub at_slot : Option Slot → Result CalledSide ℕ
at_slot (Some y) = Ok (side.Line y)
at_slot None = Err no_channel_available

-- the called side for a caller at a slot, by the target of its number, or the cause if there is none
abbrev pub called_side : Dimensions → World → Slot → Found → Result CalledSide ℕ
called_side d w x (Line line) = if is_cut_off w (Line line) then Err destination_out_of_order else at_slot (lowest_called w x line)
called_side d w x (Lines lines) = if is_cut_off w (Lines lines) then Err destination_out_of_order else at_slot (hunted w x lines)
called_side d w x (Room room) = if is_full d w then Err switching_equipment_congestion else Ok (side.Room room)
called_side d w x More = Ok side.More
called_side d w x Nothing = Err unallocated_number

-- the slot of a called side is on one of the `external` lines
abbrev pub IsWithin : ℕ → CalledSide → Type 0
IsWithin external (side.Line y) = IsExternal external y
IsWithin external (side.Room room) = Unit {0}
IsWithin external side.More = Unit {0}

-- the operations for a state that the user of a leg reports: none unless it had a STATUS ENQUIRY
abbrev pub course_of_status : Setting → World → HeldLeg → ℕ → Course
course_of_status s w h reported = if h.leg.enquired then course_of_report s w h reported else nothing

-- the operations of a call whose called side was chosen
abbrev pub accept_side : Bool → World → ℕ → Pending → Slot → CalledSide → List Operation
accept_side first w own asked x (side.Line y) = call_line first own asked x y (lowest_free_reference w.legs y.line)
accept_side first w own asked x (side.Room room) = call_room first w.legs own x room
accept_side first w own asked x side.More = await_digits first own asked x

-- if the called side is a room, the caller can join it
abbrev pub SeatsInRoom : Connections → Legs → Slot → CalledSide → Type 0
SeatsInRoom map legs x called = (room : ℕ) → called ≡ side.Room room → (d : Dimensions) × (w : World) × Holds d map legs w × CanSeat d w x

-- the CALL PROCEEDING to a caller
abbrev pub proceeding_sent : Bool → Slot → Leg → Signal
proceeding_sent first x leg = record { line = x.line; octets = encoding (call_proceeding first x leg) }

-- the STATUS to the user of a leg, with this cause
abbrev pub status_sent : HeldLeg → ℕ → Signal
status_sent held cause = record { line = held.slot.line; octets = encoding (status held.leg cause) }

-- the checks of a number in overlap sending: whether all of it are digits, its target, and whether the called side has
-- a slot or a port
abbrev pub dialled_checks : Dimensions → World → Slot → Message → Bool → Found → List Check
dialled_checks d w x m readable target =
    (not readable, invalid_number_format)
    ∷ (number_checks target (complete_in m.elements) ++ called_checks d w (Some x) target)
