-- The pending numbers and the messages for retransmission in a table of legs: each slot has space for one of either,
-- which counts by the state of the slot's leg. Source: this project.
use Rattle.std.specs.Prelude.{ℕ, ◌==◌, Bool, List, [], ◌∷◌, Option, Some, None, if◌then◌else◌}
use Rattle.q931_codec.specs.CallStates.{overlap_sending}
use Rattle.call_states.specs.Acts.{is_among}
use Rattle.call_states.specs.declared.leg.Leg.{Leg}
use Rattle.call_states.specs.declared.pending.Pending.{Pending}
use Rattle.call_states.specs.declared.condition.Condition.{Condition}
use Rattle.call_profile.specs.KeptMessages.{awaiting_answer}
use Rattle.call_profile.specs.Legs.{Legs}
use Rattle.leg_table.specs.declared.notes.SlotData.{SlotData}
use Rattle.leg_table.specs.declared.notes.SlotData.TheVariants.{Number, Message}

abbrev pub number_in : SlotData → Option Pending
number_in (Number p) = Some p
number_in (Message octets) = None

abbrev pub message_in : SlotData → Option (List ℕ)
message_in (Number p) = None
message_in (Message octets) = Some octets

-- a number counts if the leg is in overlap sending, a message if the leg waits for the reply to it
abbrev pub counting : Option Leg → SlotData → Option Pending
counting None note = None
counting (Some leg) note = if leg.state == overlap_sending then number_in note else None

abbrev pub keeping : Option Leg → SlotData → Option (List ℕ)
keeping None note = None
keeping (Some leg) note = if is_among awaiting_answer leg.state then message_in note else None

-- the values that count at the slots
unfoldable pub shown_all : (X : Type 0) → (Option Leg → SlotData → Option X) → List (Option Leg) → List SlotData → List (Option X)
shown_all X shown [] notes = []
shown_all X shown (leg ∷ legs) [] = None ∷ shown_all X shown legs []
shown_all X shown (leg ∷ legs) (note ∷ notes) = shown leg note ∷ shown_all X shown legs notes

abbrev pub counting_all : List (Option Leg) → List SlotData → List (Option Pending)
counting_all legs notes = shown_all Pending counting legs notes

abbrev pub keeping_all : List (Option Leg) → List SlotData → List (Option (List ℕ))
keeping_all legs notes = shown_all (List ℕ) keeping legs notes

abbrev pub legs_kept : List (Option Leg) → List SlotData → List Condition → List Bool → Legs
legs_kept legs notes conditions down =
    record { held = legs; pending = counting_all legs notes; kept = keeping_all legs notes; conditions = conditions; down = down }
