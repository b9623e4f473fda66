-- The output of the command `gen`. Source: this project.
use Rattle.std.specs.Prelude.{ℕ, ◌++◌, Bool, true, false, List, length, count_by, codes, decimal}
use Rattle.exchange_events.specs.declared.trace.Event.{Event}
use Rattle.exchange_events.specs.declared.trace.Event.TheVariants.{Nail, Seat, Free, Message, Frame, LinkUp, LinkDown, RestartLine}
use Rattle.exchange_events.specs.declared.trace.Trace.{Trace}

abbrev pub is_frame : Event → Bool
is_frame (Nail x y) = false
is_frame (Seat x room) = false
is_frame (Free x) = false
is_frame (Message line octets) = false
is_frame (LinkUp line) = false
is_frame (LinkDown line) = false
is_frame (RestartLine line) = false
is_frame (Frame input) = true

-- the line that counts the events and the frames of a trace, and then the summaries of its meters
abbrev pub summary_text : Trace → List ℕ → List ℕ
summary_text trace said = codes "events " ++ decimal (length trace.events) ++ codes " frames " ++ decimal (count_by is_frame trace.events) ++ codes "\n" ++ said
