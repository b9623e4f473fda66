-- The orders in which the events of a trace can be processed. Source: this project.
use Rattle.std.specs.Prelude.{◌≡◌, ◌≢◌, ℕ, zero, suc, ◌%◌, ◌<◌, ◌≤◌, ◌⊎◌, List, length, take, nat_lt, count_by, slice_get, slice_index, All, AllPairs, Contains, EachIndex, Option, Some, None}
use Rattle.std.specs.List.{range_with_len}
use Rattle.exchange_events.specs.declared.trace.Event.{Event}
use Rattle.exchange_events.specs.declared.trace.Event.TheVariants.{Nail, Seat, Free, Message, LinkUp, LinkDown, RestartLine, Frame}
use Rattle.exchange_events.specs.declared.trace.Trace.{Trace}

-- the worker of an event: one of the call processors, or the frame worker
pub data Worker : Type 0 where
  Processor : ℕ → Worker
  Frame_worker : Worker

-- the call processors share the lines in turn; a nail belongs to the line of its first slot, a seat and a free to the
-- line of their slot, a message to its user's line, a data link's change to the line of the link
abbrev pub worker_of : ℕ → Event → Worker
worker_of processors (Nail x y) = Processor (x.line % processors)
worker_of processors (Seat x room) = Processor (x.line % processors)
worker_of processors (Free x) = Processor (x.line % processors)
worker_of processors (Message line octets) = Processor (line % processors)
worker_of processors (LinkUp line) = Processor (line % processors)
worker_of processors (LinkDown line) = Processor (line % processors)
worker_of processors (RestartLine line) = Processor (line % processors)
worker_of processors (Frame input) = Frame_worker

-- the segment of event number n, counted from 0: the number of segments that end before it
abbrev pub segment_of : List ℕ → ℕ → ℕ
segment_of ends n = count_by (λ last. nat_lt last n) ends

-- the event with this number; numbers count from 1
unfoldable pub event_at : List Event → ℕ → Option Event
event_at events zero = None
event_at events (suc n) = slice_get events n

-- m and n are numbers of events of one worker
pub record SameWorker (trace : Trace) (m n : ℕ) : Type 0 where
  pub first : Event
  pub second : Event
  pub is_first : event_at trace.events m ≡ Some first
  pub is_second : event_at trace.events n ≡ Some second
  pub same : worker_of trace.processors first ≡ worker_of trace.processors second

-- event m is processed before event n: it is in an earlier segment, or its worker reaches it first in the same segment
abbrev pub Precedes : Trace → ℕ → ℕ → Type 0
Precedes trace m n =
    (segment_of trace.segments m < segment_of trace.segments n)
    ⊎ ((segment_of trace.segments m ≡ segment_of trace.segments n) × (m < n) × SameWorker trace m n)

-- n is the number of an event of the trace
abbrev pub IsEvent : Trace → ℕ → Type 0
IsEvent trace n = (1 ≤ n) × (n ≤ length trace.events)

-- a lawful prefix: events of the trace, each once, and none before one that precedes it
pub record IsLawfulPrefix (trace : Trace) (order : List ℕ) : Type 0 where
  pub known : All (IsEvent trace) order
  pub distinct : AllPairs (λ m n. m ≢ n) order
  pub waits : EachIndex order (λ k. (m : ℕ) → IsEvent trace m → Precedes trace m (slice_index order k) → Contains (take k order) m)

-- a lawful order has every event
pub record IsLawful (trace : Trace) (order : List ℕ) : Type 0 where
  pub begun : IsLawfulPrefix trace order
  pub whole : (n : ℕ) → IsEvent trace n → Contains order n

-- the numbers of the first events of the file
abbrev pub file_order : ℕ → List ℕ
file_order count = range_with_len 1 count
