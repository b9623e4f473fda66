-- The exchange state, and its change by commands. Source: this project; the paths join the layout by Paull's rule.
use Rattle.std.specs.Prelude.{ℕ, ◌+◌, ◌*◌, ◌==◌, Bool, List, [], ◌∷◌, ◌++◌, count_by, replicate, Option, Some, None}
use Rattle.circuit_model.specs.declared.channel.Slot.{Slot}
use Rattle.circuit_model.specs.declared.circuit.Circuit.{Circuit}
use Rattle.circuit_model.specs.FrameInput.{Input}
use Rattle.circuit_model.specs.Circuits.{is_member, heard_by}
use Rattle.circuit_model.specs.Holding.{Holding, empty, Command, Connect, Seat as Take_seat, Give_tone, Clear, Frame as Boundary, after}
use Rattle.circuit_model.specs.Ports.{Ports, free_ports, ports_after, port_of, ports_with}
use Rattle.control_memory.specs.Layout.{Layout}
use Rattle.control_memory.specs.Connecting.{connect, moved}
use Rattle.control_memory.specs.Shown.{without_both, partner}
use Rattle.exchange_events.specs.Sizes.{Dimensions}
use Rattle.call_profile.specs.Legs.{Legs, no_legs}
use Rattle.exchange_events.specs.declared.reply.Reply.{Reply}
use Rattle.exchange_events.specs.declared.reply.Reply.TheVariants.{Granted, Seated}

abbrev pub exchange_lines : Dimensions → ℕ
exchange_lines d = d.external + d.bridges

-- the exchange state: the live circuits, the legs of the calls, the member of each conference port and the layout of
-- the paths; and of each frame so far its input, and the circuits and ports at its boundary
pub record World : Type 0 where
  pub holding : Holding
  pub legs : Legs
  pub ports : Ports
  pub layout : Layout
  pub inputs : List Input
  pub held : List (List Circuit)
  pub seated : List Ports

-- before the first event
abbrev pub start : Dimensions → World
start d = record {
  holding = empty;
  legs = no_legs d.external;
  ports = free_ports d.bridges;
  layout = replicate (30 * exchange_lines d) None;
  inputs = [];
  held = [];
  seated = [];
}

-- the layout after a path joins it from x to y, and after another joins it back
abbrev pub one_way : Dimensions → Layout → Slot → Slot → Layout
one_way d layout x y = connect (exchange_lines d) d.slots layout x y

abbrev pub both_ways : Dimensions → Layout → Slot → Slot → Layout
both_ways d layout x y = connect (exchange_lines d) d.slots (one_way d layout x y) y x

-- the layout after a member is connected with its port
abbrev pub with_port : Dimensions → Layout → Slot → Option Slot → Layout
with_port d layout x None = layout
with_port d layout x (Some port) = both_ways d layout x port

-- the layout after a command: a connection needs a path each way, a seat one to its member's port and one back, and
-- clearing a slot removes its paths
abbrev pub layout_after : Dimensions → World → Command → Layout
layout_after d w (Connect x y) = both_ways d w.layout x y
layout_after d w (Take_seat x room) = with_port d w.layout x (port_of d.external (ports_with x w.ports) x)
layout_after d w (Give_tone x kind) = w.layout
layout_after d w (Clear x) = without_both w.layout x (partner d.external w.ports (heard_by w.holding.circuits x))
layout_after d w Boundary = w.layout

abbrev pub obey : Dimensions → World → Command → World
obey d w command = record w { holding = after w.holding command; ports = ports_after w.ports command; layout = layout_after d w command }

-- a frame is recorded in the state at its boundary
abbrev pub pass : World → Input → World
pass w input = record w {
  holding = after w.holding Boundary;
  inputs = w.inputs ++ input ∷ [];
  held = w.held ++ w.holding.circuits ∷ [];
  seated = w.seated ++ w.ports ∷ [];
}

-- every conference port is taken: the number of members equals the number of ports
abbrev pub is_full : Dimensions → World → Bool
is_full d w = count_by is_member w.holding.circuits == 30 * d.bridges

-- the reply to a connection of x with y, or to a seat at a port: the numbers of live paths that moved for the path
-- there, and for the one back
abbrev pub nail_reply : Dimensions → Layout → Slot → Slot → Reply
nail_reply d layout x y = Granted (moved layout (one_way d layout x y)) (moved (one_way d layout x y) (both_ways d layout x y))

-- a member without a port has no paths
abbrev pub seat_reply : Dimensions → Layout → Slot → Option Slot → Reply
seat_reply d layout x None = Seated 0 0
seat_reply d layout x (Some port) = Seated (moved layout (one_way d layout x port)) (moved (one_way d layout x port) (both_ways d layout x port))
