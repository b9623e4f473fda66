-- The workers of a segment, their seats and their answers. Source: this project.
use Rattle.std.specs.Prelude.{◌≡◌, ℕ, zero, suc, ◌+◌, ◌≤◌, ◌||◌, nat_lt, Bool, false, if◌then◌else◌, List, [], ◌∷◌, length}
use Rattle.exchange_events.specs.declared.trace.Trace.{Trace}
use Rattle.exchange_events.specs.Orders.{Worker, Processor, Frame_worker}
use Rattle.seat_history.specs.declared.seat_knowledge.SeatKnowledge.{SeatKnowledge}
use Rattle.seat_history.specs.Seats.{after_join}
use Rattle.call_processor.specs.Parts.{part_of}

-- the worker with this number: the call processors have their own, and the frame worker the next one
abbrev pub worker_numbered : ℕ → ℕ → Worker
worker_numbered processors i = if nat_lt i processors then Processor i else Frame_worker

-- the part of the worker with this number
abbrev pub part_numbered : Trace → ℕ → ℕ → List ℕ
part_numbered trace segment i = part_of trace segment (worker_numbered trace.processors i)

-- the number of events of that part
abbrev pub load : Trace → ℕ → ℕ → ℕ
load trace segment i = length (part_numbered trace segment i)

-- the number of events of the first n workers
unfoldable pub loads_below : Trace → ℕ → ℕ → ℕ
loads_below trace segment zero = 0
loads_below trace segment (suc n) = loads_below trace segment n + load trace segment n

-- a new seat that seat 0 made when it knew v: with this number and n turns, the history that v has seen, and no own
-- entry
pub record IsNew (v : SeatKnowledge) (number turns : ℕ) (w : SeatKnowledge) : Type 0 where
  pub number_is : w.number ≡ number
  pub turns_are : w.left ≡ turns
  pub seen_is : w.seen ≡ v.seen
  pub own_none : w.own ≡ []

-- The workers have seats, numbered from n up; the workers' own numbers rise, from `low` up. Each seat has a turn for
-- each event of its part.
abbrev pub AreDealt : Trace → ℕ → SeatKnowledge → ℕ → ℕ → List (ℕ × SeatKnowledge) → Type 0
AreDealt trace segment v n low [] = Unit {0}
AreDealt trace segment v n low (j ∷ js) =
    (low ≤ j.0) × (j.0 ≤ trace.processors) × IsNew v n (load trace segment j.0) j.1 × AreDealt trace segment v (n + 1) (j.0 + 1) js

-- the turns of all seats
abbrev pub turns_left : List (ℕ × SeatKnowledge) → ℕ
turns_left [] = 0
turns_left (j ∷ js) = j.1.left + turns_left js

-- one of the seats holds the baton
abbrev pub any_baton : List (ℕ × SeatKnowledge) → Bool
any_baton [] = false
any_baton (j ∷ js) = j.1.baton || any_baton js

-- seat 0, which knew v, after it made n seats: only the turns, the baton and the count have changed
pub record HasDealt (v : SeatKnowledge) (seats : ℕ) (w : SeatKnowledge) : Type 0 where
  pub number : w.number ≡ v.number
  pub seen : w.seen ≡ v.seen
  pub own : w.own ≡ v.own
  pub kept : w.kept ≡ v.kept
  pub made : w.made ≡ v.made + seats

-- the knowledge of seat 0 with these seats joined, the last first
abbrev pub after_joins : SeatKnowledge → List SeatKnowledge → SeatKnowledge
after_joins v [] = v
after_joins v (w ∷ ws) = after_join (after_joins v ws) w
