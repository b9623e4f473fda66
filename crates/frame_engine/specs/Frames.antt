-- The frames that an engine has carried, and its output. Source: this project.
use Rattle.std.specs.Prelude.{◌≡◌, ℕ, ◌<◌, ◌≤◌, List, [], ◌∷◌, ◌++◌, length, Option, Some, None, slice_index, slice_index_or, replicate, if◌then◌else◌, nat_lt}
use Rattle.circuit_model.specs.declared.channel.Slot.{Slot}
use Rattle.circuit_model.specs.declared.circuit.Kind.{Kind}
use Rattle.circuit_model.specs.declared.circuit.Circuit.{Circuit}
use Rattle.circuit_model.specs.declared.circuit.Circuit.TheVariants.{Pair, Member, Tone}
use Rattle.circuit_model.specs.FrameInput.{Input, idle_octet, arrives}
use Rattle.circuit_model.specs.Circuits.{heard_by}
use Rattle.circuit_model.specs.Holding.{Command, empty, frames, circuits_of, AreAllowed}
use Rattle.circuit_model.specs.Ports.{Ports, free_ports, port_frames, ports_of}
use Rattle.circuit_model.specs.Extent.{AreWithin}
use Rattle.circuit_model.specs.Hears.{mix}
use Rattle.control_memory.specs.declared.heard.Heard.TheVariants.{Tone as Sounds}
use Rattle.control_memory.specs.Image.{Control, lines_of, EachSlot, heard_at}
use Rattle.control_memory.specs.Shown.{member_at, Shows}
use Rattle.tone_rules.specs.declared.tones.Tones.{Tones}
use Rattle.tone_rules.specs.Tables.{IsGiven}

-- the circuits and ports of each frame come from one list of allowed commands and boundaries, which use slots of
-- external lines only
pub record Come (external bridges : ℕ) (held : List (List Circuit)) (ports : List Ports) : Type 0 where
  pub commands : List Command
  pub within : AreWithin external commands
  pub allowed : AreAllowed bridges empty commands
  pub circuits : held ≡ frames empty commands
  pub seats : ports ≡ port_frames (free_ports bridges) commands

-- n frames: the input, the circuits and the ports of each
pub record AreCounted (n : ℕ) (inputs : List Input) (held : List (List Circuit)) (ports : List Ports) : Type 0 where
  pub inputs_counted : length inputs ≡ n
  pub held_counted : length held ≡ n
  pub ports_counted : length ports ≡ n

-- the boundary of a frame: the input of each of the frames before it, their circuits and ports, and the circuits and
-- ports that exist at it
pub record Boundary : Type 0 where
  pub inputs : List Input
  pub held : List (List Circuit)
  pub ports : List Ports
  pub circuits : List Circuit
  pub seats : Ports

-- the same, including the frame that begins there
abbrev pub inputs_with : Boundary → Input → List Input
inputs_with b input = b.inputs ++ input ∷ []

abbrev pub held_with : Boundary → List (List Circuit)
held_with b = b.held ++ b.circuits ∷ []

abbrev pub ports_with : Boundary → List Ports
ports_with b = b.ports ++ b.seats ∷ []

-- the frame of the control memory begins there: the frames before are carried, the control memory shows the circuits
-- and ports that exist, and one list of commands made them all
pub record IsNext (carried : List Input → List (List Circuit) → List Ports → Type 0) (m : Control) (b : Boundary) : Type 0 where
  pub carries : carried b.inputs b.held b.ports
  pub shows : Shows m b.circuits b.seats m.frame
  pub came : Come m.external m.bridges (held_with b) (ports_with b)

-- the mix for a member, by the circuit by which it receives
abbrev pub mixed_through : List Input → List Circuit → ℕ → Option Circuit → ℕ
mixed_through inputs circuits f None = idle_octet
mixed_through inputs circuits f (Some (Pair x y since)) = idle_octet
mixed_through inputs circuits f (Some (Member room y since)) = mix inputs circuits room y f
mixed_through inputs circuits f (Some (Tone kind y since)) = idle_octet

abbrev pub mixed_at : List Input → List Circuit → ℕ → Option Slot → ℕ
mixed_at inputs circuits f None = idle_octet
mixed_at inputs circuits f (Some member) = mixed_through inputs circuits f (heard_by circuits member)

-- the octet that frame f brings to a slot: for an external slot the octet that arrives, for a port the mix for its
-- member, for every other port the idle octet
abbrev pub octet_brought : ℕ → List Input → List (List Circuit) → List Ports → ℕ → Slot → ℕ
octet_brought external inputs held ports f at =
    if nat_lt at.line external then arrives inputs f at else mixed_at inputs (circuits_of held f) f (member_at external (ports_of ports f) at)

-- out has, for each external line and place, the octet of the slot
abbrev pub PlaysOut : ℕ → (Slot → ℕ) → List (List ℕ) → Type 0
PlaysOut external octet out = (at : Slot) → at.line < external → at.place < 30 → slice_index (slice_index_or out at.line []) at.place ≡ octet at

-- out has, for each external line and place, the octet that is output in the control memory's frame, which begins at
-- the boundary with this input
abbrev pub PlaysFrame : (List Input → List (List Circuit) → ℕ → Slot → ℕ) → Control → Boundary → Input → List (List ℕ) → Type 0
PlaysFrame plays m b input out = PlaysOut m.external (plays (inputs_with b input) (held_with b) m.frame) out

-- all rows of octets from one on are idle
abbrev pub AreIdleFrom : ℕ → List (List ℕ) → Type 0
AreIdleFrom first rows = (row : ℕ) → first ≤ row → row < length rows → slice_index_or rows row [] ≡ replicate 30 idle_octet

-- each tone that a slot receives is given
abbrev pub TonesGiven : Tones → Control → Type 0
TonesGiven tones image = EachSlot (lines_of image) (λ at. (kind : Kind) (since : ℕ) → heard_at image at ≡ Sounds kind since → IsGiven tones kind)
