-- Three calls in sequence, and the meters' texts of them. Source: worked out by hand.
use Rattle.std.specs.Prelude.{ℕ, Bool, true, false, List, [], ◌∷◌, codes}
use Rattle.circuit_model.specs.declared.channel.Slot.{Slot}
use Rattle.exchange_events.specs.declared.record.Party.{Party}
use Rattle.exchange_events.specs.declared.record.Party.TheVariants.{Line, Room}
use Rattle.exchange_events.specs.declared.record.CallRecord.{CallRecord}
use Rattle.meters.specs.Changing.{Step, Event_done, Meters_changed, Metering, handed_in, steps_text}

abbrev slot : ℕ → ℕ → Slot
slot line place = record { line = line; place = place }

abbrev call : Slot → Party → Bool → ℕ → ℕ → ℕ → CallRecord
call caller called answered from to cause = record { caller = caller; called = called; answered = answered; from = from; to = to; cause = cause }

-- an answered call of 8 frames, a call of 4,000 frames to a room, and a call whose first frame is above its last
abbrev pub three_calls : List CallRecord
three_calls =
    call (slot 0 0) (Line (slot 12 29)) true 2 10 16
    ∷ call (slot 31 14) (Room 63) true 100 4100 102
    ∷ call (slot 7 15) (Line (slot 0 1)) false 9 8 17
    ∷ []

-- a call to a room, its acceptance and its clearing, a change of meters, a frame, and two changes
abbrev pub first_steps : List Step
first_steps =
    Event_done (codes "1 message moved 0 0 0:08028001021803A98381 0:0802800107\n") []
    ∷ Event_done (codes "2 message\n") (call (slot 0 0) (Room 0) true 0 0 16 ∷ [])
    ∷ Meters_changed
    ∷ []

abbrev pub last_steps : List Step
last_steps = Event_done (codes "3 frame 0\n") [] ∷ Meters_changed ∷ Meters_changed ∷ []

-- active and spare meters, each known by its text
abbrev pub Texts : Type 0
Texts = List (List CallRecord → List ℕ)

abbrev pub metering_of : Texts → Texts → Metering (List CallRecord → List ℕ)
metering_of meters spare = handed_in meters spare

-- the text of these steps with such meters
abbrev pub written_by : List Step → Texts → Texts → List ℕ
written_by steps meters spare = steps_text (λ text records. text records) steps (handed_in meters spare)
