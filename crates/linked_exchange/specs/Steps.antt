-- The steps of an exchange with data links: each is at most one event of a trace without them. Source: this project.
use Rattle.std.specs.Prelude.{ℕ, List, [], ◌∷◌, Option, Some, None}
use Rattle.std.specs.declared.result.Result.{Result}
use Rattle.std.specs.declared.result.Result.TheVariants.{Ok, Err}
use Rattle.exchange_events.specs.declared.reply.Reply.{Reply}
use Rattle.exchange_events.specs.declared.reply.Reply.TheVariants.{Sent, Frame as Framed}
use Rattle.exchange_events.specs.declared.signal.Signal.{Signal}
use Rattle.exchange_events.specs.declared.trace.Event.{Event}
use Rattle.exchange_events.specs.declared.trace.Event.TheVariants.{Message, LinkUp, LinkDown}
use Rattle.exchange_events.specs.Sizes.{Setting}
use Rattle.call_profile.specs.Step.{reply, world_after_all}
use Rattle.call_profile.specs.World.{World}
use Rattle.link_procedures.specs.declared.state.Indication.{Indication}
use Rattle.link_procedures.specs.declared.state.Indication.TheVariants.{Data, Established, Released}
use Rattle.link_procedures.specs.declared.state.LinkTimers.{LinkTimers}
use Rattle.link_table.specs.declared.notice.Change.{Change}
use Rattle.link_table.specs.declared.notice.Change.TheVariants.{Up, Down}
use Rattle.link_table.specs.declared.notice.Notice.{Notice}
use Rattle.link_table.specs.declared.notice.Notice.TheVariants as notice
use Rattle.link_table.specs.declared.notice.NoLinkError.{NoLinkError}
use Rattle.link_table.specs.Tables.{Table}
use Rattle.link_table.specs.Steps.{begun, received_on, noticed_on, submitted_on, ended, line_of_turn, turned_at, changed_at}

-- the exchange state and the data links of its lines
pub record Joint : Type 0 where
  pub world : World
  pub links : Table

-- the input of a step: an event of the exchange, the octets of a frame of the user on a line, or the turn of a link
pub data LinkedInput : Type 0 where
  Happens : Event → LinkedInput
  Receives : ℕ → List ℕ → LinkedInput
  Turns : LinkedInput

-- the number of frames of the exchange so far, by which the links measure time
abbrev pub frames_so_far : Joint → ℕ
frames_so_far j = j.world.holding.next

-- ---- the event of a step

-- the event of an indication on a line: a message of its user, or a change of its data link
abbrev pub event_of : ℕ → Notice → Event
event_of line (notice.Message information) = Message line information
event_of line (notice.Link Up) = LinkUp line
event_of line (notice.Link Down) = LinkDown line

abbrev pub noticed_events : ℕ → Result (Option Notice) NoLinkError → List Event
noticed_events line (Ok (Some n)) = event_of line n ∷ []
noticed_events line (Ok None) = []
noticed_events line (Err e) = []

abbrev pub changed_events : ℕ → Option Change → List Event
changed_events line (Some change) = event_of line (notice.Link change) ∷ []
changed_events line None = []

-- the event of a step, if call control is informed of anything
abbrev pub derived : LinkTimers → Joint → LinkedInput → List Event
derived timers j (Happens e) = e ∷ []
derived timers j (Receives line octets) = noticed_events line (noticed_on line octets (frames_so_far j) j.links)
derived timers j Turns = changed_events (line_of_turn (frames_so_far j)) (changed_at timers (frames_so_far j) j.links)

-- ---- the states of a step

-- the links at the start of a step, before its event
abbrev pub links_begun : LinkTimers → Joint → LinkedInput → Table
links_begun timers j (Happens e) = begun j.links
links_begun timers j (Receives line octets) = received_on line octets (frames_so_far j) j.links
links_begun timers j Turns = turned_at timers (frames_so_far j) j.links

-- messages of call control, each submitted to its line in turn
unfoldable pub submitted_all : ℕ → List Signal → Table → Table
submitted_all at [] t = t
submitted_all at (m ∷ ms) t = submitted_all at ms (submitted_on m.line m.octets at t)

-- the messages that a reply sends
abbrev pub sends_of : Reply → List Signal
sends_of (Sent sends moved records) = sends
sends_of (Framed number sends records) = sends
sends_of _ = []

-- the reply to the event of a step; a step without an event has the reply of an event that changes nothing
abbrev pub reply_to : Setting → World → List Event → Reply
reply_to s w [] = Sent [] None []
reply_to s w (e ∷ es) = reply s w e

-- the links at the end of a step that began with the links t, in an exchange with this number of frames: its messages are submitted, and the link that
-- received a frame sends what it may, and acknowledges the frame
abbrev pub links_ended : ℕ → List Signal → Table → Table
links_ended at sends t = ended at (submitted_all at sends t)

-- the exchange state after a step
abbrev pub world_after : Setting → LinkTimers → Joint → LinkedInput → World
world_after s timers j input = world_after_all s j.world (derived timers j input)

-- the exchange state and the links after a step
unfoldable pub next_joint : Setting → LinkTimers → Joint → LinkedInput → Joint
next_joint s timers j input = record {
  world = world_after s timers j input;
  links = links_ended (world_after s timers j input).holding.next (sends_of (reply_to s j.world (derived timers j input))) (links_begun timers j input);
}

-- ---- the results of a step

-- the indication to call control (ITU-T Q.921 (09/97), 4.1.1) after a received frame; an error on a line without a link
abbrev pub indication_of : Notice → Indication
indication_of (notice.Message information) = Data
indication_of (notice.Link Up) = Established
indication_of (notice.Link Down) = Released

abbrev pub indicated : Result (Option Notice) NoLinkError → Result (Option Indication) NoLinkError
indicated (Ok (Some n)) = Ok (Some (indication_of n))
indicated (Ok None) = Ok None
indicated (Err e) = Err e
