-- The exchange as a machine: the exchange state after each event, and the reply. Source: this project.
use Rattle.std.specs.Prelude.{ℕ, ◌≤◌, ◌&&◌, not, Bool, true, false, None, List, [], ◌∷◌, filter_map, IfSome, if◌then◌else◌}
use Rattle.circuit_model.specs.declared.channel.Slot.{Slot}
use Rattle.circuit_model.specs.Holding.{Connect, Seat as Take_seat, Clear}
use Rattle.circuit_model.specs.Ports.{port_of, ports_with}
use Rattle.exchange_events.specs.declared.trace.Event.{Event}
use Rattle.exchange_events.specs.declared.trace.Event.TheVariants.{Nail, Seat, Free, Message, LinkUp, LinkDown, RestartLine, Frame}
use Rattle.exchange_events.specs.declared.reply.Reply.{Reply}
use Rattle.exchange_events.specs.declared.reply.Reply.TheVariants.{Granted, Busy, Seated, NoPort, Freed, NotNailed, Sent as Sent_reply, Frame as Frame_reply}
use Rattle.exchange_events.specs.Orders.{event_at}
use Rattle.call_profile.specs.Calls.{MessageAnswer, after_message, answer_to}
use Rattle.call_profile.specs.Expiring.{outcome_of_frame}
use Rattle.call_profile.specs.IdleSlots.{idle, is_nailed}
use Rattle.exchange_events.specs.Sizes.{Setting, Dimensions}
use Rattle.call_profile.specs.LinkChanges.{outcome_of_line_restart, outcome_of_link}
use Rattle.call_profile.specs.Restarts.{MessageOutcome}
use Rattle.call_profile.specs.World.{World, obey, is_full, nail_reply, seat_reply}

-- two slots can be nailed together if both are idle; one can be seated if it is idle and a port is free
abbrev pub may_nail : World → Slot → Slot → Bool
may_nail w x y = idle w x && idle w y

abbrev pub may_seat : Dimensions → World → Slot → Bool
may_seat d w x = idle w x && not (is_full d w)

-- the reply to a message
abbrev pub message_reply : MessageAnswer → Reply
message_reply a = Sent_reply a.sends a.moved a.records

-- the reply to a change of a data link, or to the restart of a line: the messages and records; nothing is connected
abbrev pub link_reply : MessageOutcome → Reply
link_reply a = Sent_reply a.making.sends None a.recorded

-- the reply to a frame: its number, and the messages and records of its turn
abbrev pub frame_reply : ℕ → MessageOutcome → Reply
frame_reply number a = Frame_reply number a.making.sends a.recorded

-- the reply to an event
abbrev pub reply : Setting → World → Event → Reply
reply s w (Nail x y) = if may_nail w x y then nail_reply s.dimensions w.layout x y else Busy
reply s w (Seat x room) =
    if not (idle w x) then Busy
    else if is_full s.dimensions w then NoPort
    else seat_reply s.dimensions w.layout x (port_of s.dimensions.external (ports_with x w.ports) x)
reply s w (Free x) = if is_nailed w x then Freed else NotNailed
reply s w (Message line octets) = message_reply (answer_to s w line octets)
reply s w (LinkUp line) = link_reply (outcome_of_link s.dimensions s.tones false line w)
reply s w (LinkDown line) = link_reply (outcome_of_link s.dimensions s.tones true line w)
reply s w (RestartLine line) = link_reply (outcome_of_line_restart s.dimensions s.tones line w)
reply s w (Frame input) = frame_reply w.holding.next (outcome_of_frame s w input)

-- the exchange state after an event; a refused event does not change it
abbrev pub next : Setting → World → Event → World
next s w (Nail x y) = if may_nail w x y then obey s.dimensions w (Connect x y) else w
next s w (Seat x room) = if may_seat s.dimensions w x then obey s.dimensions w (Take_seat x room) else w
next s w (Free x) = if is_nailed w x then obey s.dimensions w (Clear x) else w
next s w (Message line octets) = after_message s w line octets
next s w (LinkUp line) = (outcome_of_link s.dimensions s.tones false line w).making.world
next s w (LinkDown line) = (outcome_of_link s.dimensions s.tones true line w).making.world
next s w (RestartLine line) = (outcome_of_line_restart s.dimensions s.tones line w).making.world
next s w (Frame input) = (outcome_of_frame s w input).making.world

-- a reply states that at most n paths moved, each way
abbrev pub MovesAtMost : ℕ → Reply → Type 0
MovesAtMost n (Granted a b) = (a ≤ n) × (b ≤ n)
MovesAtMost n Busy = Unit {0}
MovesAtMost n (Seated a b) = (a ≤ n) × (b ≤ n)
MovesAtMost n NoPort = Unit {0}
MovesAtMost n Freed = Unit {0}
MovesAtMost n NotNailed = Unit {0}
MovesAtMost n (Sent_reply sends moved records) = IfSome moved (λ moves. (moves.0 ≤ n) × (moves.1 ≤ n))
MovesAtMost n (Frame_reply k sends records) = Unit {0}

-- the exchange state after a list of events
abbrev pub world_after_all : Setting → World → List Event → World
world_after_all s w [] = w
world_after_all s w (e ∷ es) = world_after_all s (next s w e) es

-- the replies of a run, in order, each in the exchange state after the events before it
abbrev pub run : Setting → World → List Event → List Reply
run s w [] = []
run s w (e ∷ es) = reply s w e ∷ run s (next s w e) es

-- the events with these numbers
abbrev pub events_of : List Event → List ℕ → List Event
events_of events order = filter_map (event_at events) order
