-- The slots that a circuit uses, and the slot that receives by it. Source: this project.
use Rattle.std.specs.Prelude.{ℕ, ◌&&◌, ◌||◌, not, Bool, true, false, ◌==◌, List, Option, Some, None, find, if◌then◌else◌}
use Rattle.std.specs.List.{list_any}
use Rattle.circuit_model.specs.declared.channel.Slot.{Slot}
use Rattle.circuit_model.specs.declared.circuit.Circuit.{Circuit}
use Rattle.circuit_model.specs.declared.circuit.Circuit.TheVariants.{Pair, Member, Tone}

abbrev pub same_slot : Slot → Slot → Bool
same_slot x y = (x.line == y.line) && (x.place == y.place)

-- the slot that receives by the circuit
abbrev pub listener : Circuit → Slot
listener (Pair from to since) = to
listener (Member room at since) = at
listener (Tone kind to since) = to

-- the first frame that the circuit exists in
abbrev pub first_frame_of : Circuit → ℕ
first_frame_of (Pair from to since) = since
first_frame_of (Member room at since) = since
first_frame_of (Tone kind to since) = since

-- the circuit uses the slot, as receiver or as sender
abbrev pub names : Slot → Circuit → Bool
names x (Pair from to since) = same_slot x from || same_slot x to
names x (Member room at since) = same_slot x at
names x (Tone kind to since) = same_slot x to

-- no circuit uses the slot
abbrev pub is_idle : List Circuit → Slot → Bool
is_idle circuits x = not (list_any (names x) circuits)

abbrev pub is_member : Circuit → Bool
is_member (Pair from to since) = false
is_member (Member room at since) = true
is_member (Tone kind to since) = false

-- the circuit by which a slot receives
abbrev pub heard_by : List Circuit → Slot → Option Circuit
heard_by circuits x = find (λ c. same_slot x (listener c)) circuits

-- a circuit, unless it uses the slot
abbrev pub unless_naming : Slot → Option Circuit → Option Circuit
unless_naming x None = None
unless_naming x (Some c) = if names x c then None else Some c

-- the circuit by which z receives after a new circuit, or after x and y are connected, if it was `before`
abbrev pub with_circuit : Circuit → Option Circuit → Slot → Option Circuit
with_circuit c before z = if same_slot z (listener c) then Some c else before

abbrev pub with_pair : Slot → Slot → ℕ → Option Circuit → Slot → Option Circuit
with_pair x y since before z = with_circuit (Pair y x since) (with_circuit (Pair x y since) before z) z
