-- The progress of a run in the segments of a trace. Source: this project.
use Rattle.std.specs.Prelude.{ℕ, ◌<◌, List, ◌∷◌, slice_index, All, Contains}
use Rattle.exchange_events.specs.declared.trace.Trace.{Trace}
use Rattle.exchange_events.specs.Orders.{IsEvent, IsLawfulPrefix, segment_of}
use Rattle.seat_history.specs.declared.seat_knowledge.SeatKnowledge.{SeatKnowledge}
use Rattle.exchange_core.specs.Working.{order_of}

-- the order is a lawful prefix, and has every event of the first k segments and no other
pub record IsDoneBelow (trace : Trace) (k : ℕ) (order : List ℕ) : Type 0 where
  pub lawful : IsLawfulPrefix trace order
  pub within : All (λ n. segment_of trace.segments n < k) order
  pub all : (n : ℕ) → IsEvent trace n → segment_of trace.segments n < k → Contains order n

-- a seat has seen all of the first k segments and nothing else
abbrev pub HasDoneBelow : Trace → ℕ → SeatKnowledge → Type 0
HasDoneBelow trace k v = IsDoneBelow trace k (order_of v.seen)

-- the number of events before segment k, counted from 0
abbrev pub events_before : List ℕ → ℕ → ℕ
events_before ends k = slice_index (0 ∷ ends) k
