-- The commands that made an exchange state. Source: this project.
use Rattle.std.specs.Prelude.{◌≡◌, List, [], ◌∷◌, length, All}
use Rattle.circuit_model.specs.declared.circuit.Circuit.{Circuit}
use Rattle.circuit_model.specs.declared.circuit.Circuit.TheVariants.{Pair, Member, Tone}
use Rattle.circuit_model.specs.Holding.{Command, empty, after_all, frames, AreAllowed}
use Rattle.circuit_model.specs.Ports.{Ports, free_ports, ports_after, port_frames}
use Rattle.circuit_model.specs.Extent.{AreWithin}
use Rattle.tone_rules.specs.declared.tones.Tones.{Tones}
use Rattle.tone_rules.specs.Tables.{IsGiven}
use Rattle.exchange_events.specs.Sizes.{Dimensions}
use Rattle.call_profile.specs.World.{World}

-- the ports after a list of commands
abbrev pub ports_after_all : Ports → List Command → Ports
ports_after_all ports [] = ports
ports_after_all ports (c ∷ cs) = ports_after_all (ports_after ports c) cs

-- a tone that exists is one that the trace gives, so it has octets, as the engine requires
abbrev pub HasOctets : Tones → Circuit → Type 0
HasOctets tones (Pair from to since) = Unit {0}
HasOctets tones (Member room at since) = Unit {0}
HasOctets tones (Tone kind to since) = IsGiven tones kind

-- a list of allowed commands and boundaries, which use slots of external lines only, made the circuits and the ports of
-- the exchange state and of each frame so far; and each tone that exists has octets
pub record IsMade (d : Dimensions) (tones : Tones) (w : World) : Type 0 where
  pub commands : List Command
  pub within : AreWithin d.external commands
  pub allowed : AreAllowed d.bridges empty commands
  pub circuits : w.holding ≡ after_all empty commands
  pub ports : w.ports ≡ ports_after_all (free_ports d.bridges) commands
  pub held : w.held ≡ frames empty commands
  pub seated : w.seated ≡ port_frames (free_ports d.bridges) commands
  pub sounding : All (HasOctets tones) w.holding.circuits
  pub arrived : length w.inputs ≡ w.holding.next
