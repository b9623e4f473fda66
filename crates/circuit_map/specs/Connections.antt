-- The contents of a map of circuits, and the holding that it represents. Source: this project.
use Rattle.std.specs.Prelude.{◌≡◌, ◌≢◌, ℕ, ◌+◌, ◌*◌, ◌<◌, ◌≤◌, ◌&&◌, nat_lt, Bool, true, false, List, length, count_by, Option, Some, None, IfSome, is_some, slice_index_or, option_and_then, if◌then◌else◌}
use Rattle.circuit_model.specs.declared.channel.Slot.{Slot}
use Rattle.circuit_model.specs.declared.circuit.Circuit.{Circuit}
use Rattle.circuit_model.specs.declared.circuit.Circuit.TheVariants.{Pair, Member, Tone}
use Rattle.circuit_model.specs.Circuits.{same_slot, heard_by, is_member, unless_naming}
use Rattle.circuit_model.specs.Holding.{Holding, Valid, Command, Connect, Seat, Give_tone, Clear, Frame, after}
use Rattle.circuit_model.specs.Ports.{Ports, has, ports_after}
use Rattle.conference_ports.specs.declared.occupant.Occupant.{Occupant}
use Rattle.conference_ports.specs.Owners.{members}
use Rattle.control_memory.specs.declared.heard.Heard.{Heard}
use Rattle.control_memory.specs.declared.heard.Heard.TheVariants.{Silent}
use Rattle.control_memory.specs.Layout.{Layout, Legal, IsSlot, Joins, hop_of, path_to, number_of}
use Rattle.control_memory.specs.Connecting.{connect, moved}
use Rattle.control_memory.specs.Image.{EachSlot, HasLayout, port_entry}
use Rattle.control_memory.specs.FrameTables.{Recent}
use Rattle.control_memory.specs.Shown.{JoinsCircuits, served_by, heard_as, partner, seated_as, without_both}

-- for each external slot, line by line, the circuit by which it receives; the member of each conference port; and the
-- layout of the paths
pub record Connections : Type 0 where
  pub external : ℕ
  pub bridges : ℕ
  pub slots : ℕ
  pub bound : ℕ
  pub next : ℕ
  pub heard : List (Option Circuit)
  pub ports : Ports
  pub layout : Layout

-- the connections of a map that stores the owner of each port, whose member has it
abbrev pub kept_connections : ℕ → ℕ → ℕ → ℕ → ℕ → List (Option Circuit) → List (Option Occupant) → Layout → Connections
kept_connections external bridges slots bound next heard owners layout = record {
  external = external;
  bridges = bridges;
  slots = slots;
  bound = bound;
  next = next;
  heard = heard;
  ports = members owners;
  layout = layout;
}

-- all lines: the external ones, followed by the bridge lines
abbrev pub map_lines : Connections → ℕ
map_lines m = m.external + m.bridges

abbrev pub IsExternal : Connections → Slot → Type 0
IsExternal m x = (x.line < m.external) × (x.place < 30)

-- the circuit by which a slot receives; a slot that is not external receives by none
abbrev pub hears_in : ℕ → List (Option Circuit) → Slot → Option Circuit
hears_in external heard x = if nat_lt x.line external && nat_lt x.place 30 then slice_index_or heard (number_of x) None else None

abbrev pub hears_at : Connections → Slot → Option Circuit
hears_at m x = hears_in m.external m.heard x

-- the circuit by which a slot receives after a command, from those before it: a slot that gets a circuit receives by
-- it, and no slot receives by a circuit that uses a cleared slot
abbrev pub hears_after : Connections → Command → Slot → Option Circuit
hears_after m (Connect x y) z = if same_slot z x then Some (Pair y x m.next) else if same_slot z y then Some (Pair x y m.next) else hears_at m z
hears_after m (Seat x room) z = if same_slot z x then Some (Member room x m.next) else hears_at m z
hears_after m (Give_tone x kind) z = if same_slot z x then Some (Tone kind x m.next) else hears_at m z
hears_after m (Clear x) z = unless_naming x (hears_at m z)
hears_after m Frame z = hears_at m z

-- the circuit makes the slot a member of a room
abbrev pub seats : Slot → Circuit → Bool
seats x (Pair from to since) = false
seats x (Member room at since) = same_slot x at
seats x (Tone kind to since) = false

-- the connections belong to a valid holding and its ports: each slot receives by its circuit, each member has one port
-- and no other slot has any, and the paths are those that the circuits need
pub record Represents (m : Connections) (h : Holding) (ports : Ports) : Type 0 where
  pub next : m.next ≡ h.next
  pub valid : Valid m.bridges h
  pub heard : (x : Slot) → hears_at m x ≡ heard_by h.circuits x
  pub members : m.ports ≡ ports
  pub ported : (x : Slot) → count_by (has x) ports ≡ count_by (seats x) h.circuits
  pub taken : count_by is_some ports ≡ count_by is_member h.circuits
  pub joined : JoinsCircuits (map_lines m) m.external m.layout h.circuits ports

-- the layout of the paths is legal: no two share an internal slot of a line
abbrev pub IsLaid : Connections → Type 0
IsLaid m = Legal (map_lines m) m.slots m.layout

-- the second connections are of the holding and ports after the command, for every holding and ports of the first ones
abbrev pub Obeys : Connections → Connections → Command → Type 0
Obeys m n command = (h : Holding) (ports : Ports) → Represents m h ports → Represents n (after h command) (ports_after ports command)

-- the circuit that a slot serves: for an external slot the circuit by which it receives, for a conference port the
-- circuit by which its member receives
abbrev pub served_in : ℕ → List (Option Circuit) → Ports → Slot → Option Circuit
served_in external heard ports at = option_and_then (hears_in external heard) (served_by external ports at)

-- the room that a slot shows: a port shows its member's
abbrev pub room_in : ℕ → List (Option Circuit) → Ports → Slot → Option (ℕ × ℕ)
room_in external heard ports at = if nat_lt at.line external then None else seated_as (served_in external heard ports at)

-- a slot's entry in a table that has one for every place of every line, like a control memory
abbrev pub entry_at : {X : Type 0} → X → List X → Slot → X
entry_at missing entries at = slice_index_or entries (number_of at) missing

-- the tables for the next control memory have the source of each slot by the circuit that it serves, and the room that
-- it shows
pub record IsShown (external bridges : ℕ) (heard : List (Option Circuit)) (ports : Ports) (hearing : List Heard) (sitting : List (Option (ℕ × ℕ))) : Type 0 where
  pub hearers : length hearing ≡ 30 * (external + bridges)
  pub sitters : length sitting ≡ 30 * bridges
  pub hears : EachSlot (external + bridges) (λ at. entry_at Silent hearing at ≡ heard_as (served_in external heard ports at))
  pub sits : EachSlot (external + bridges) (λ at. port_entry external sitting at ≡ room_in external heard ports at)

-- the owner of each port is a member of the room in the owner's entry
abbrev pub AreRoomed : (Slot → Option Circuit) → List (Option Occupant) → Type 0
AreRoomed hears owners = (k : ℕ) (owner : Occupant) → slice_index_or owners k None ≡ Some owner → (since : ℕ) × (hears owner.member ≡ Some (Member owner.room owner.member since))

-- the latest control memory, if its tables still apply, has the layout, and the tables for the next control memory
abbrev pub AreLatest : Layout → List Heard → List (Option (ℕ × ℕ)) → Recent → Type 0
AreLatest layout hearing sitting r = IfSome r.latest (λ image. HasLayout image layout × (image.heard ≡ hearing) × (image.rooms ≡ sitting))

-- the same, and its sizes
pub record IsRecent (first_line bridge_lines depth : ℕ) (layout : Layout) (hearing : List Heard) (sitting : List (Option (ℕ × ℕ))) (r : Recent) : Type 0 where
  pub external : r.external ≡ first_line
  pub bridges : r.bridges ≡ bridge_lines
  pub slots : r.slots ≡ depth
  pub latest : AreLatest layout hearing sitting r

-- the sizes of the parts; the parts belong to some holding; each port's owner has its room; and the tables for the next
-- control memory show these, as does the latest control memory
pub record IsSound (m : Connections) (lines first_line bridge_lines : ℕ) (owners : List (Option Occupant)) (hearing : List Heard) (sitting : List (Option (ℕ × ℕ))) (r : Recent) : Type 0 where
  pub few : map_lines m ≤ 34
  pub width : lines ≡ map_lines m
  pub first : first_line ≡ m.external
  pub rows : bridge_lines ≡ m.bridges
  pub listeners : length m.heard ≡ 30 * m.external
  pub sockets : length m.ports ≡ 30 * m.bridges
  pub legal : Legal lines m.slots m.layout
  pub held : (h : Holding) × Represents m h m.ports
  pub roomed : AreRoomed (hears_at m) owners
  pub shown : IsShown m.external m.bridges m.heard m.ports hearing sitting
  pub recent : IsRecent m.external m.bridges m.slots m.layout hearing sitting r

-- the sizes are the same
pub record SameSizes (a b : Connections) : Type 0 where
  pub external : b.external ≡ a.external
  pub bridges : b.bridges ≡ a.bridges
  pub slots : b.slots ≡ a.slots
  pub bound : b.bound ≡ a.bound

-- the layout with a path from one slot to the other, and then with one back
abbrev pub both_connected : ℕ → ℕ → Layout → Slot → Slot → Layout
both_connected lines slots layout x y = connect lines slots (connect lines slots layout x y) y x

-- the same for a map's layout: the path there only, and both
abbrev pub joined_one : Connections → Slot → Slot → Layout
joined_one m x y = connect (map_lines m) m.slots m.layout x y

abbrev pub joined_both : Connections → Slot → Slot → Layout
joined_both m x y = both_connected (map_lines m) m.slots m.layout x y

-- two slots of n lines that a path there and one back can join: no path begins or ends at either
pub record CanBeJoined (lines : ℕ) (layout : Layout) (x y : Slot) : Type 0 where
  pub slot_x : IsSlot lines x
  pub slot_y : IsSlot lines y
  pub distinct : x ≢ y
  pub free_x : (hop_of layout x ≡ None) × (path_to layout x ≡ None)
  pub free_y : (hop_of layout y ≡ None) × (path_to layout y ≡ None)

-- two slots that are joined both ways
pub record AreJoined (lines : ℕ) (layout : Layout) (x y : Slot) : Type 0 where
  pub slot_x : IsSlot lines x
  pub slot_y : IsSlot lines y
  pub distinct : x ≢ y
  pub there : Joins layout x y
  pub back : Joins layout y x

-- the number of live paths that the path from one slot to the other moved, and the number that the path back moved
abbrev pub AreMoves : ℕ × ℕ → Connections → Slot → Slot → Type 0
AreMoves moves m x y = (moves.0 ≡ moved m.layout (joined_one m x y)) × (moves.1 ≡ moved (joined_one m x y) (joined_both m x y))

-- a circuit that needs no path, or no circuit
abbrev pub is_pathless : Option Circuit → Bool
is_pathless None = true
is_pathless (Some (Pair from to since)) = false
is_pathless (Some (Member room at since)) = false
is_pathless (Some (Tone kind to since)) = true

-- the layout after a slot is cleared
abbrev pub parted : Connections → Slot → Layout
parted m x = without_both m.layout x (partner m.external m.ports (hears_at m x))
