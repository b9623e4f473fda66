-- The circuits and conference ports at a frame's boundary, in the control memory of the frame. Source: this project.
use Rattle.std.specs.Prelude.{◌≡◌, ℕ, nat_lt, ◌↔◌, List, [], ◌∷◌, Contains, Option, Some, None, slice_index_or, option_and_then, if◌then◌else◌}
use Rattle.circuit_model.specs.declared.channel.Slot.{Slot}
use Rattle.circuit_model.specs.declared.circuit.Circuit.{Circuit}
use Rattle.circuit_model.specs.declared.circuit.Circuit.TheVariants.{Pair, Member, Tone as Tone_circuit}
use Rattle.circuit_model.specs.Circuits.{heard_by}
use Rattle.circuit_model.specs.Ports.{Ports, port_of}
use Rattle.control_memory.specs.declared.heard.Heard.{Heard}
use Rattle.control_memory.specs.declared.heard.Heard.TheVariants.{Silent, Path, Tone}
use Rattle.control_memory.specs.Layout.{Layout, Legal, IsSlot, Joins}
use Rattle.control_memory.specs.Connecting.{without_path}
use Rattle.control_memory.specs.Image.{Control, lines_of, port_number, HasLayout, EachSlot, heard_at, room_at}

-- to a conference port and back
abbrev pub to_port : Slot → Option Slot → List (Slot × Slot)
to_port x None = []
to_port x (Some port) = (x, port) ∷ (port, x) ∷ []

-- the inlets and outlets that a circuit joins: its two slots, or its member's slot and port, both ways
abbrev pub joined_by : ℕ → Ports → Circuit → List (Slot × Slot)
joined_by external ports (Pair x y since) = (x, y) ∷ []
joined_by external ports (Member room x since) = to_port x (port_of external ports x)
joined_by external ports (Tone_circuit kind x since) = []

-- a circuit needs the inlet joined to the outlet
abbrev pub IsNeeded : ℕ → List Circuit → Ports → Slot → Slot → Type 0
IsNeeded external circuits ports x y = (c : Circuit) × Contains circuits c × Contains (joined_by external ports c) (x, y)

-- the layout joins an inlet to an outlet if and only if a circuit needs it
abbrev pub JoinsCircuits : ℕ → ℕ → Layout → List Circuit → Ports → Type 0
JoinsCircuits lines external layout circuits ports = (x y : Slot) → IsSlot lines x → Joins layout x y ↔ IsNeeded external circuits ports x y

-- the slot at the other end of the paths of the circuit by which a slot receives: the sending slot, or its conference
-- port
abbrev pub partner : ℕ → Ports → Option Circuit → Option Slot
partner external ports None = None
partner external ports (Some (Pair from to since)) = Some from
partner external ports (Some (Member room at since)) = port_of external ports at
partner external ports (Some (Tone_circuit kind to since)) = None

-- the layout without the paths from a slot and from its partner
abbrev pub without_both : Layout → Slot → Option Slot → Layout
without_both layout x None = layout
without_both layout x (Some y) = without_path (without_path layout x) y

-- the member that has a port, by the port's slot
abbrev pub member_at : ℕ → Ports → Slot → Option Slot
member_at external ports port = slice_index_or ports (port_number external port) None

-- the slot that another one serves: an external slot itself, a conference port its member
abbrev pub served_by : ℕ → Ports → Slot → Option Slot
served_by external ports at = if nat_lt at.line external then Some at else member_at external ports at

-- the source of a slot's octets by a circuit, and the room of which the circuit makes it a member
abbrev pub heard_as : Option Circuit → Heard
heard_as None = Silent
heard_as (Some (Pair x y since)) = Path since
heard_as (Some (Member room x since)) = Path since
heard_as (Some (Tone_circuit kind x since)) = Tone kind since

abbrev pub seated_as : Option Circuit → Option (ℕ × ℕ)
seated_as None = None
seated_as (Some (Pair x y since)) = None
seated_as (Some (Member room x since)) = Some (room, since)
seated_as (Some (Tone_circuit kind x since)) = None

abbrev pub circuit_of : ℕ → List Circuit → Ports → Slot → Option Circuit
circuit_of external circuits ports at = option_and_then (heard_by circuits) (served_by external ports at)

-- an external slot has no room, a port has its member's
abbrev pub room_of : ℕ → List Circuit → Ports → Slot → Option (ℕ × ℕ)
room_of external circuits ports at = if nat_lt at.line external then None else seated_as (circuit_of external circuits ports at)

-- by this layout, the control memory shows these circuits and ports as frame f's
pub record ShowsBy (layout : Layout) (m : Control) (circuits : List Circuit) (ports : Ports) (f : ℕ) : Type 0 where
  pub frame : m.frame ≡ f
  pub legal : Legal (lines_of m) m.slots layout
  pub tables : HasLayout m layout
  pub paths : JoinsCircuits (lines_of m) m.external layout circuits ports
  pub heard : EachSlot (lines_of m) (λ at. heard_at m at ≡ heard_as (circuit_of m.external circuits ports at))
  pub rooms : EachSlot (lines_of m) (λ at. room_at m at ≡ room_of m.external circuits ports at)

-- it shows them by some legal layout
abbrev pub Shows : Control → List Circuit → Ports → ℕ → Type 0
Shows m circuits ports f = (layout : Layout) × ShowsBy layout m circuits ports f
