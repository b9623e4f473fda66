-- The contents of the lines of a generated trace. Source: this project.
use Rattle.std.specs.Prelude.{ℕ, List, fold, replicate, slice_set, Some, None}
use Rattle.circuit_model.specs.declared.channel.Slot.{Slot}
use Rattle.circuit_model.specs.FrameInput.{Input}
use Rattle.number_plan.specs.declared.target.Target.TheVariants as target
use Rattle.exchange_events.specs.declared.trace.Event.TheVariants as event
use Rattle.trace_text.specs.declared.said.Said.{Said}
use Rattle.trace_text.specs.declared.said.Said.TheVariants as said
use Rattle.traffic_gen.specs.Lines.{Line, Part, Header, ToLine, ToRoom, Nail, Message, Frame, Sync}

-- the slot at a place of a line
abbrev pub slot_at : ℕ → ℕ → Slot
slot_at line place = record { line = line; place = place }

-- a frame in which one more line sends octets
abbrev pub with_octets : Input → Part → Input
with_octets given part = slice_set given part.line (Some part.octets)

-- the input of a frame of eight lines: each of these sends its octets, and every other one is idle
abbrev pub input_of : List Part → Input
input_of parts = fold with_octets (replicate 8 None) parts

-- the contents of a line
abbrev pub said_by : Line → Said
said_by (Header external bridges processors) = said.Header (record { external = external; bridges = bridges; processors = processors })
said_by (ToLine number line) = said.Numbered (record { digits = number; target = target.Line line })
said_by (ToRoom number room) = said.Numbered (record { digits = number; target = target.Room room })
said_by (Nail one other place) = said.Happens (event.Nail (slot_at one place) (slot_at other place))
said_by (Message line octets) = said.Happens (event.Message line octets)
said_by (Frame parts) = said.Happens (event.Frame (input_of parts))
said_by Sync = said.Sync
