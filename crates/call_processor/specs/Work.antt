-- The progress of a worker in its part of a segment. Source: this project.
use Rattle.std.specs.Prelude.{◌≡◌, ℕ, ◌+◌, ◌<◌, ◌≤◌, Bool, IsTrue, List, ◌++◌, length, map, slice_get, Some, All, AllPairs}
use Rattle.exchange_events.specs.declared.reply.Reply.{Reply}
use Rattle.exchange_events.specs.declared.trace.Trace.{Trace}
use Rattle.exchange_events.specs.Kept.{kept_of}
use Rattle.exchange_events.specs.Orders.{Worker}
use Rattle.seat_history.specs.declared.seat_knowledge.SeatKnowledge.{SeatKnowledge}
use Rattle.seat_history.specs.Histories.{StartsWith, before, entries_of}
use Rattle.seat_history.specs.Seats.{after_step}
use Rattle.exchange_core.specs.Boards.{Board, AnswersAt}
use Rattle.call_profile.specs.Step.{MovesAtMost}
use Rattle.exchange_core.specs.Working.{Entry}
use Rattle.call_processor.specs.declared.worked.Placed.{Placed}
use Rattle.call_processor.specs.Parts.{part_of}

-- the worker may process its part of this segment of the board's trace: its seat has a turn for each event of the part
pub record MayWork (board : Board) (trace : Trace) (segment : ℕ) (worker : Worker) (v : SeatKnowledge) : Type 0 where
  pub trace_is : trace ≡ board.trace
  pub within : segment < length trace.segments
  pub turns : length (part_of trace segment worker) ≤ v.left

-- the entries of the seat with this number for these events
abbrev pub entries_for : ℕ → List ℕ → List Entry
entries_for number events = map (λ (n : ℕ). (number, n)) events

-- From v to w the seat processed these events, in this order: they are its new entries, each for one turn, and it has
-- seen more of the history. Its number, its baton and the counts of seat 0 are unchanged. Its own entries are all with
-- its number, if they were before.
pub record Did (v : SeatKnowledge) (events : List ℕ) (w : SeatKnowledge) : Type 0 where
  pub own : w.own ≡ v.own ++ entries_for v.number events
  pub exact : v.own ≡ entries_of v.number v.seen → w.own ≡ entries_of w.number w.seen
  pub turns : w.left + length events ≡ v.left
  pub begins : StartsWith w.seen v.seen
  pub number : w.number ≡ v.number
  pub baton : w.baton ≡ v.baton
  pub made : w.made ≡ v.made
  pub others : w.kept ≡ v.kept

-- From v to w the seat processed one event, after a history that begins with the part it had seen.
pub record DidEvent (v : SeatKnowledge) (event : ℕ) (w : SeatKnowledge) : Type 0 where
  pub place : ℕ
  pub seat : w ≡ after_step (before place w.seen) event v
  pub begins : StartsWith (before place w.seen) v.seen
  pub last : length w.seen ≡ place + 1
  pub turn : 0 < v.left
  pub exact : w.own ≡ entries_of w.number w.seen

-- the answer has the position of the seat's entry for its event, and the exchange's reply at the history before that
-- entry
pub record IsAnswer (board : Board) (seat : SeatKnowledge) (p : Placed) : Type 0 where
  pub reply : Reply
  pub entry : slice_get seat.seen p.place ≡ Some (seat.number, p.answer.event)
  pub given : AnswersAt board (before p.place seat.seen) p.answer.event reply
  pub few : MovesAtMost board.bound reply
  pub keeps : p.answer.reply ≡ kept_of reply

-- the numbers of the answered events
abbrev pub answered_events : List Placed → List ℕ
answered_events answers = map (λ (p : Placed). p.answer.event) answers

-- from v to w a prefix of the part was processed, all of it if the part is whole; each processed event was answered,
-- except perhaps the last one if the part is incomplete, and each answer follows the earlier ones in the history
pub record Works (board : Board) (part : List ℕ) (v : SeatKnowledge) (answers : List Placed) (whole : Bool) (w : SeatKnowledge) : Type 0 where
  pub done : List ℕ
  pub first : (rest : List ℕ) × (part ≡ done ++ rest)
  pub did : Did v done w
  pub told : (lacking : List ℕ) × (done ≡ answered_events answers ++ lacking) × (length lacking ≤ 1)
  pub each : All (IsAnswer board w) answers
  pub rising : AllPairs (λ (p q : Placed). p.place < q.place) answers
  pub beyond : All (λ (p : Placed). length v.seen ≤ p.place) answers
  pub all : IsTrue whole → answered_events answers ≡ part
