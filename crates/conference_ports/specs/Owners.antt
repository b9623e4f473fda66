-- The ports of the conference bridges and their members. Source: this project.
use Rattle.std.specs.Prelude.{ℕ, ◌+◌, ◌-◌, ◌*◌, ◌<◌, ◌≤◌, List, [], ◌∷◌, map, Option, Some, None, if◌then◌else◌}
use Rattle.circuit_model.specs.declared.channel.Slot.{Slot}
use Rattle.circuit_model.specs.Ports.{Ports, has}
use Rattle.conference_ports.specs.declared.occupant.Occupant.{Occupant}

-- the ports of n bridge lines, which are numbered after the external lines: for each port, by line and then by place,
-- its owner
pub record Bridges : Type 0 where
  pub external : ℕ
  pub lines : ℕ
  pub owners : List (Option Occupant)

-- the member of an owned port
abbrev pub member_of : Option Occupant → Option Slot
member_of None = None
member_of (Some owner) = Some owner.member

-- the member of each port
abbrev pub members : List (Option Occupant) → Ports
members owners = map member_of owners

-- the number of a port among all ports
abbrev pub port_number : ℕ → Slot → ℕ
port_number external port = 30 * (port.line - external) + port.place

-- a member has the slot of an external line, a port the slot of a bridge line
abbrev pub IsMemberSlot : Bridges → Slot → Type 0
IsMemberSlot b at = (at.line < b.external) × (at.place < 30)

abbrev pub IsPortSlot : Bridges → Slot → Type 0
IsPortSlot b at = (b.external ≤ at.line) × (at.line < b.external + b.lines) × (at.place < 30)

-- the lowest free port gets an owner
abbrev pub owners_with : Occupant → List (Option Occupant) → List (Option Occupant)
owners_with owner [] = []
owners_with owner (None ∷ owners) = Some owner ∷ owners
owners_with owner (Some other ∷ owners) = Some other ∷ owners_with owner owners

-- the ports of a member have no owner
abbrev pub owners_without : Slot → List (Option Occupant) → List (Option Occupant)
owners_without x owners = map (λ port. if has x (member_of port) then None else port) owners
