-- The events of a segment that each worker processes. Source: this project.
use Rattle.std.specs.Prelude.{ℕ, ◌&&◌, nat_eq, Bool, true, false, List, length, filter, Option, Some, None}
use Rattle.exchange_events.specs.declared.trace.Event.{Event}
use Rattle.exchange_events.specs.declared.trace.Trace.{Trace}
use Rattle.exchange_events.specs.Orders.{Worker, Processor, Frame_worker, event_at, worker_of, segment_of, file_order}

-- whether the two are one worker
abbrev pub is_worker : Worker → Worker → Bool
is_worker (Processor a) (Processor b) = nat_eq a b
is_worker (Processor a) Frame_worker = false
is_worker Frame_worker (Processor b) = false
is_worker Frame_worker Frame_worker = true

-- whether the worker, with n call processors, processes the event, if there is one
abbrev pub does : ℕ → Worker → Option Event → Bool
does processors worker None = false
does processors worker (Some e) = is_worker (worker_of processors e) worker

-- whether the worker processes the trace's event with this number
abbrev pub is_its : Trace → Worker → ℕ → Bool
is_its trace worker n = does trace.processors worker (event_at trace.events n)

-- a worker's part of a segment, counted from 0: the numbers of its events, in file order
abbrev pub part_of : Trace → ℕ → Worker → List ℕ
part_of trace segment worker = filter (λ n. nat_eq (segment_of trace.segments n) segment && is_its trace worker n) (file_order (length trace.events))

-- the numbers of a segment's events in file order; segments are counted from 0
abbrev pub events_of_segment : Trace → ℕ → List ℕ
events_of_segment trace segment = filter (λ n. nat_eq (segment_of trace.segments n) segment) (file_order (length trace.events))

-- the call processor with this number, or the frame worker if there is no number
abbrev pub worker_at : Option ℕ → Worker
worker_at None = Frame_worker
worker_at (Some n) = Processor n
