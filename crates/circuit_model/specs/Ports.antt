-- The ports of the conference bridges, and their members. Source: this project.
use Rattle.std.specs.Prelude.{◌≡◌, ◌<◌, Contains, ℕ, ℤ, pos, ◌+◌, ◌+ℤ◌, ◌-◌, ◌*◌, ◌/◌, ◌%◌, Bool, false, List, [], ◌∷◌, map, replicate, Option, Some, None, option_map, position, slice_index_or, if◌then◌else◌}
use Rattle.circuit_model.specs.declared.channel.Slot.{Slot}
use Rattle.circuit_model.specs.declared.circuit.Circuit.{Circuit}
use Rattle.circuit_model.specs.declared.circuit.Circuit.TheVariants.{Pair, Member, Tone}
use Rattle.circuit_model.specs.Circuits.{same_slot}
use Rattle.circuit_model.specs.Holding.{Command, Connect, Seat, Give_tone, Clear, Frame, empty, circuits_in_frame, AreAllowed}

-- for each port, by line and then by place, the member that has it
abbrev pub Ports : Type 0
Ports = List (Option Slot)

-- 30 ports to a bridge line, all free
abbrev pub free_ports : ℕ → Ports
free_ports bridges = replicate (30 * bridges) None

-- the lowest free port is given to the member
abbrev pub ports_with : Slot → Ports → Ports
ports_with x [] = []
ports_with x (None ∷ ports) = Some x ∷ ports
ports_with x (Some member ∷ ports) = Some member ∷ ports_with x ports

abbrev pub has : Slot → Option Slot → Bool
has x None = false
has x (Some member) = same_slot x member

-- the member's port is free again
abbrev pub ports_without : Slot → Ports → Ports
ports_without x ports = map (λ port. if has x port then None else port) ports

-- the ports after a command
abbrev pub ports_after : Ports → Command → Ports
ports_after ports (Connect x y) = ports
ports_after ports (Seat x room) = ports_with x ports
ports_after ports (Give_tone x kind) = ports
ports_after ports (Clear x) = ports_without x ports
ports_after ports Frame = ports

-- the ports of each frame, at its boundary
abbrev pub port_frames : Ports → List Command → List Ports
port_frames ports [] = []
port_frames ports (Connect x y ∷ cs) = port_frames ports cs
port_frames ports (Seat x room ∷ cs) = port_frames (ports_with x ports) cs
port_frames ports (Give_tone x kind ∷ cs) = port_frames ports cs
port_frames ports (Clear x ∷ cs) = port_frames (ports_without x ports) cs
port_frames ports (Frame ∷ cs) = ports ∷ port_frames ports cs

-- bridge lines are numbered after the external ones
abbrev pub port_numbered : ℕ → ℕ → Slot
port_numbered external n = record { line = external + n / 30; place = n % 30 }

-- the port that a member has
abbrev pub port_of : ℕ → Ports → Slot → Option Slot
port_of external ports x = option_map (port_numbered external) (position (has x) ports)

-- the ports of frame f of those listed; none if there is no such frame
abbrev pub ports_of : List Ports → ℕ → Ports
ports_of ports f = slice_index_or ports f []

-- the member that the port with a number has, if any
abbrev pub owner_of : Ports → ℕ → Option Slot
owner_of ports k = slice_index_or ports k None

-- the ports of frame f of these commands
abbrev pub ports_in : ℕ → List Command → ℕ → Ports
ports_in bridges cs f = ports_of (port_frames (free_ports bridges) cs) f

-- a member has one of the ports of n bridge lines; no two ports have the same member; a member's port is still its own
abbrev pub HasPort : ℕ → Ports → Slot → Type 0
HasPort bridges ports x = (k : ℕ) × (k < 30 * bridges) × (owner_of ports k ≡ Some x)

abbrev pub HaveOneEach : Ports → Type 0
HaveOneEach ports = (j k : ℕ) (x : Slot) → owner_of ports j ≡ Some x → owner_of ports k ≡ Some x → j ≡ k

abbrev pub KeepsPort : Ports → Ports → Slot → Type 0
KeepsPort before now x = (k : ℕ) → owner_of before k ≡ Some x → owner_of now k ≡ Some x

-- a member of frame f of these commands has the same port in it as in the frame before
abbrev pub KeepsItsPort : ℕ → List Command → ℕ → Slot → Type 0
KeepsItsPort bridges cs f x = KeepsPort (ports_in bridges cs (f - 1)) (ports_in bridges cs f) x

-- a slot is a member of some room
abbrev pub HasSeat : List Circuit → Slot → Type 0
HasSeat circuits x = (room since : ℕ) × Contains circuits (Member room x since)

-- a slot has been a member of some room since an earlier frame than this one
abbrev pub HasSeatBefore : ℕ → List Circuit → Slot → Type 0
HasSeatBefore f circuits x = (room since : ℕ) × Contains circuits (Member room x since) × (since < f)

-- a condition on the circuits and the ports of each frame of allowed commands
abbrev pub InEachFrame : ℕ → (List Circuit → Ports → Type 0) → Type 0
InEachFrame bridges holds = (cs : List Command) (f : ℕ) → AreAllowed bridges empty cs → holds (circuits_in_frame cs f) (ports_in bridges cs f)

-- the sum of the weights of the members who have ports
abbrev pub sum_of_owners : (Slot → ℤ) → Ports → ℤ
sum_of_owners weight [] = pos 0
sum_of_owners weight (None ∷ ports) = sum_of_owners weight ports
sum_of_owners weight (Some x ∷ ports) = weight x +ℤ sum_of_owners weight ports

-- the sum of the weights of the members among some circuits
abbrev pub sum_of_members : (Slot → ℤ) → List Circuit → ℤ
sum_of_members weight [] = pos 0
sum_of_members weight (Pair from to since ∷ circuits) = sum_of_members weight circuits
sum_of_members weight (Member room at since ∷ circuits) = weight at +ℤ sum_of_members weight circuits
sum_of_members weight (Tone kind to since ∷ circuits) = sum_of_members weight circuits
