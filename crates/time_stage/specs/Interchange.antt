-- The time stages of a time-space-time fabric. Source: this project; each is a time slot interchanger, which reads its
-- speech memory at random, in the order that its control memory gives.
use Rattle.std.specs.Prelude.{◌≡◌, ℕ, ◌<◌, List}
use Rattle.circuit_model.specs.declared.channel.Slot.{Slot}
use Rattle.frame_buffer.specs.Speech.{Speech, octet_in_half}
use Rattle.frame_buffer.specs.Highways.{Highways, octet_on, AreFilled}
use Rattle.control_memory.specs.Layout.{Layout, Legal}
use Rattle.control_memory.specs.Tables.{Table, entry}
use Rattle.control_memory.specs.Image.{Control, lines_of, incoming_of, outgoing_of, EachSlot, HasLayout}
use Rattle.control_memory.specs.Carrying.{carried, fetched}

-- the octet that a line sends in an internal slot by a table: the octet of the place in its entry, or the idle octet if
-- there is no entry
abbrev pub sends_by : Table → Speech → ℕ → ℕ → ℕ
sends_by table speech line slot = fetched (entry table line slot) (λ place. octet_in_half speech.readable (record { line = line; place = place }))

-- the octet that a place of a line reads by a table: the octet of the internal slot in its entry, or the idle octet if
-- there is no entry
abbrev pub reads_by : Table → Highways → ℕ → ℕ → ℕ
reads_by table crossed line place = fetched (entry table line place) (octet_on crossed line)

-- the octet that an incoming line sends in an internal slot
abbrev pub sends : Control → Speech → ℕ → ℕ → ℕ
sends control = sends_by (incoming_of control)

-- the octet that a place of an outgoing line reads
abbrev pub reads : Control → Highways → ℕ → ℕ → ℕ
reads control = reads_by (outgoing_of control)

-- these octets have in their rows, of m each, the octets that the lines from `first` on send
abbrev pub AreSent : ℕ → Control → Speech → ℕ → ℕ → List ℕ → Type 0
AreSent slots control speech first octets part = AreFilled slots (sends control speech) first octets part

-- n octets have in their rows of 30 the octets that the lines from `first` on read
abbrev pub AreRead : Control → Highways → ℕ → ℕ → List ℕ → Type 0
AreRead control crossed first octets part = AreFilled 30 (reads control crossed) first octets part

-- every incoming line sends by its table in every internal slot
abbrev pub IsSent : Control → Speech → Highways → Type 0
IsSent control speech highway = (line slot : ℕ) → line < highway.lines → slot < highway.slots → octet_on highway line slot ≡ sends control speech line slot

-- every outgoing line has in every place of the half that is filled the octet that the place reads
abbrev pub IsRead : Control → Highways → Speech → Type 0
IsRead control crossed out = (at : Slot) → at.line < out.lines → at.place < 30 → octet_in_half out.filled at ≡ reads control crossed at.line at.place

-- by each legal layout with the tables of the control memory, each outlet has the octet of the inlet of its path, and
-- every other slot is idle
abbrev pub IsCarried : Control → (Slot → ℕ) → (Slot → ℕ) → Type 0
IsCarried control from to =
    (layout : Layout) → Legal (lines_of control) control.slots layout → HasLayout control layout → EachSlot (lines_of control) (λ at. to at ≡ carried layout from at)
