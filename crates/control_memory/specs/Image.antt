-- The control memory of one frame. Source: this project.
use Rattle.std.specs.Prelude.{◌≡◌, ℕ, ◌+◌, ◌-◌, ◌*◌, ◌<◌, nat_lt, List, Option, None, slice_index_or, if◌then◌else◌}
use Rattle.circuit_model.specs.declared.channel.Slot.{Slot}
use Rattle.circuit_model.specs.Dimensions.{Dimensions}
use Rattle.control_memory.specs.declared.heard.Heard.{Heard}
use Rattle.control_memory.specs.declared.heard.Heard.TheVariants.{Silent}
use Rattle.control_memory.specs.Layout.{Layout, number_of}
use Rattle.control_memory.specs.Tables.{Table, HasSize, entry_in, HasTables, HasNoPaths}

-- the tables of a frame's three stages, the source of each slot's octets, and the member of each conference port, line
-- after line; the conference ports are the places of the bridge lines
pub record Control : Type 0 where
  pub frame : ℕ
  pub external : ℕ
  pub bridges : ℕ
  pub slots : ℕ
  pub incoming : List (Option ℕ)
  pub space : List (Option ℕ)
  pub outgoing : List (Option ℕ)
  pub heard : List Heard
  pub rooms : List (Option (ℕ × ℕ))

-- all lines: the external ones, followed by the bridge lines
abbrev pub lines_of : Control → ℕ
lines_of m = m.external + m.bridges

-- the place that an incoming line sends in an internal slot
abbrev pub sent : Control → ℕ → ℕ → Option ℕ
sent m line slot = entry_in m.slots m.incoming line slot

-- the incoming line that an outgoing line gets in an internal slot
abbrev pub received : Control → ℕ → ℕ → Option ℕ
received m line slot = entry_in m.slots m.space line slot

-- the internal slot that a place of an outgoing line reads
abbrev pub read : Control → ℕ → ℕ → Option ℕ
read m line place = entry_in 30 m.outgoing line place

-- the tables of the three stages: by the incoming line and the internal slot the place, by the outgoing line and the
-- internal slot the incoming line, and by the outgoing line and the place the internal slot
abbrev pub incoming_of : Control → Table
incoming_of m = record { rows = lines_of m; columns = m.slots; limit = 30; entries = m.incoming }

abbrev pub space_of : Control → Table
space_of m = record { rows = lines_of m; columns = m.slots; limit = lines_of m; entries = m.space }

abbrev pub outgoing_of : Control → Table
outgoing_of m = record { rows = lines_of m; columns = 30; limit = m.slots; entries = m.outgoing }

-- the three tables encode the layout, and hold nothing else
abbrev pub HasLayout : Control → Layout → Type 0
HasLayout m layout = HasTables (lines_of m) m.slots layout (sent m) (received m) (read m)

abbrev pub IsCleared : Control → Type 0
IsCleared m = HasNoPaths (lines_of m) m.slots (sent m) (received m) (read m)

abbrev pub heard_at : Control → Slot → Heard
heard_at m at = slice_index_or m.heard (number_of at) Silent

-- the number of a conference port among all ports: bridge lines come after the external ones, and have 30 ports each
abbrev pub port_number : ℕ → Slot → ℕ
port_number external port = 30 * (port.line - external) + port.place

-- the entry of a conference port in a list with one for each port; an external slot has none
abbrev pub port_entry : {X : Type 0} → ℕ → List (Option X) → Slot → Option X
port_entry external entries at = if nat_lt at.line external then None else slice_index_or entries (port_number external at) None

-- the room of a port's member, and its first frame there; an external slot has no room
abbrev pub room_at : Control → Slot → Option (ℕ × ℕ)
room_at m at = port_entry m.external m.rooms at

-- a control memory of an exchange of this size
pub record IsOfSize (d : Dimensions) (image : Control) : Type 0 where
  pub external : image.external ≡ d.external
  pub bridges : image.bridges ≡ d.bridges
  pub slots : image.slots ≡ d.slots

-- b has the sizes of a
pub record SameSizes (a b : Control) : Type 0 where
  pub external : b.external ≡ a.external
  pub bridges : b.bridges ≡ a.bridges
  pub slots : b.slots ≡ a.slots

-- the three tables are the same
pub record SameTables (a b : Control) : Type 0 where
  pub incoming : b.incoming ≡ a.incoming
  pub space : b.space ≡ a.space
  pub outgoing : b.outgoing ≡ a.outgoing

-- a property of each slot of n lines
abbrev pub EachSlot : ℕ → (Slot → Type 0) → Type 0
EachSlot lines Says = (at : Slot) → at.line < lines → at.place < 30 → Says at

-- every slot is silent, and every port free
pub record IsQuiet (m : Control) : Type 0 where
  pub heard : EachSlot (lines_of m) (λ at. heard_at m at ≡ Silent)
  pub rooms : EachSlot (lines_of m) (λ at. room_at m at ≡ None)

-- the sizes of the parts of a control memory: each table has a row for every line, and its numbers are places, lines
-- and internal slots; there is an entry for every place of every line, and a port for every place of the bridge lines
pub record IsSized (external bridges slots : ℕ) (places crossed read_slots : Table) (heard rooms : ℕ) : Type 0 where
  pub incoming : HasSize places (external + bridges) slots 30
  pub space : HasSize crossed (external + bridges) slots (external + bridges)
  pub outgoing : HasSize read_slots (external + bridges) 30 slots
  pub listeners : heard ≡ 30 * (external + bridges)
  pub ports : rooms ≡ 30 * bridges
