-- The processed events of a trace, by segment and worker. Source: this project.
use Rattle.std.specs.Prelude.{◌≡◌, ℕ, ◌<◌, ◌≤◌, ◌⊎◌, List, length, Contains, slice_index, Option, Some, None}
use Rattle.exchange_events.specs.declared.trace.Event.{Event}
use Rattle.exchange_events.specs.declared.trace.Trace.{Trace}
use Rattle.exchange_events.specs.Orders.{Worker, Processor, Frame_worker, IsEvent, event_at, segment_of, worker_of}

-- the index of a worker: the number of a call processor, and 8 for the frame worker
abbrev pub place_of_worker : Worker → ℕ
place_of_worker (Processor n) = n
place_of_worker Frame_worker = 8

abbrev pub place_in : ℕ → Option Event → ℕ
place_in processors None = 9
place_in processors (Some e) = place_of_worker (worker_of processors e)

-- the index of the worker that processes event n
abbrev pub place_at : Trace → ℕ → ℕ
place_at trace n = place_in trace.processors (event_at trace.events n)

-- event n is in the segment, counted from 0
abbrev pub IsIn : Trace → ℕ → ℕ → Type 0
IsIn trace segment n = IsEvent trace n × (segment_of trace.segments n ≡ segment)

-- the end of a segment: its events are below it, and each number between one of them and the end is one of them
pub record EndsAt (trace : Trace) (segment end : ℕ) : Type 0 where
  pub below : (m : ℕ) → IsIn trace segment m → m < end
  pub between : (m n : ℕ) → IsIn trace segment m → m < n → n < end → IsIn trace segment n

-- the next event of a worker, if it is below the end of the segment, is an event of the worker in the segment
abbrev pub AreOwn : Trace → ℕ → ℕ → List ℕ → Type 0
AreOwn trace segment end next =
    (w : ℕ) → w < 9 → slice_index next w < end → IsIn trace segment (slice_index next w) × (place_at trace (slice_index next w) ≡ w)

-- the next event of each worker after an order: all events of earlier segments are in the order, and none of a later segment; of this segment, the
-- events before the next event of their worker are
pub record AreTurns (trace : Trace) (segment end : ℕ) (next order : List ℕ) : Type 0 where
  pub ends : EndsAt trace segment end
  pub own : AreOwn trace segment end next
  pub earlier : (m : ℕ) → IsEvent trace m → segment_of trace.segments m < segment → Contains order m
  pub later : (m : ℕ) → Contains order m → segment_of trace.segments m ≤ segment
  pub done : (m : ℕ) → IsIn trace segment m → m < slice_index next (place_at trace m) → Contains order m
  pub undone : (m : ℕ) → IsIn trace segment m → Contains order m → m < slice_index next (place_at trace m)

-- a worker has an event left in the segment, or no segment is left
abbrev pub IsLeft : Trace → ℕ → ℕ → List ℕ → Type 0
IsLeft trace segment end next = (segment ≡ length trace.segments) ⊎ ((w : ℕ) × (w < 9) × (slice_index next w < end))

-- no event of the segment has come: each is the next event of its worker or after it
abbrev pub IsUntouched : Trace → ℕ → List ℕ → Type 0
IsUntouched trace segment next = (m : ℕ) → IsIn trace segment m → slice_index next (place_at trace m) ≤ m

-- event n is the next event of its worker, below the end of the segment
pub record IsNext (trace : Trace) (end : ℕ) (next : List ℕ) (n : ℕ) : Type 0 where
  pub known : IsEvent trace n
  pub below : n < end
  pub noted : slice_index next (place_at trace n) ≡ n
