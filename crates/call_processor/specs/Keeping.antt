-- The answers that a worker stores for the events that it processed. Source: this project.
use Rattle.std.specs.Prelude.{◌≡◌, ℕ, ◌+◌, ◌<◌, ◌≤◌, Bool, List, [], ◌∷◌, ◌++◌, length, drop, All, Option, Some, None}
use Rattle.exchange_events.specs.declared.outbox.Outbox.{Outbox}
use Rattle.exchange_events.specs.declared.outbox.Response.{Response}
use Rattle.exchange_events.specs.Kept.{kept_of}
use Rattle.exchange_events.specs.Responses.{reply_of}
use Rattle.seat_history.specs.declared.seat_knowledge.SeatKnowledge.{SeatKnowledge}
use Rattle.exchange_core.specs.Boards.{Board}
use Rattle.call_processor.specs.Borrowed.{Borrowed}
use Rattle.call_processor.specs.declared.context.RunContext.{RunContext}
use Rattle.call_processor.specs.declared.worked.Placed.{Placed}
use Rattle.call_processor.specs.Work.{IsAnswer, Works}
use Rattle.tone_rules.specs.Tables.{table_of}
use Rattle.exchange_events.specs.Orders.{Frame_worker, Processor}
use Rattle.call_processor.specs.Frames.{HasFrame, Plays}
use Rattle.call_processor.specs.Parts.{part_of}

-- the answer to an event at its position, from the response and the outbox of its step and the octets that each line is
-- sent
abbrev pub placed : ℕ → ℕ → Response → Outbox → List (List ℕ) → Placed
placed place event response outbox octets = record { place = place; answer = record { event = event; reply = kept_of (reply_of response outbox); octets = octets } }

-- the position of the first of these answers
abbrev pub first_place : List Placed → Option ℕ
first_place [] = None
first_place (p ∷ ps) = Some p.place

-- the second sink holds the answers of the first, and then this one
abbrev pub IsKept : {K : Type 0} → (K → List Placed → Type 0) → Placed → K → K → Type 0
IsKept holds p before after = (answers : List Placed) → holds before answers → holds after (answers ++ p ∷ [])

-- there is no answer, or the first one comes at this position or after it
abbrev pub BeginsFrom : ℕ → List Placed → Type 0
BeginsFrom below answers = (place : ℕ) → first_place answers ≡ Some place → below ≤ place

-- The first answers of an answer sink moved to the end of another: the first one, and the next ones as long as they
-- come before a position.
pub record HandsOn {K : Type 0} (holds : K → List Placed → Type 0) (below : ℕ) (answers others : List Placed) (from to : K) : Type 0 where
  pub run : List Placed
  pub rest : List Placed
  pub parts : answers ≡ run ++ rest
  pub some : 0 < length answers → 0 < length run
  pub before : All (λ (p : Placed). p.place < below) (drop 1 run)
  pub stops : BeginsFrom below rest
  pub left : holds from rest
  pub got : holds to (others ++ run)

-- an answer sink holds these answers, and perhaps more after them
pub record StillHolds {K : Type 0} (holds : K → List Placed → Type 0) (answers : List Placed) (k : K) : Type 0 where
  pub more : List Placed
  pub held : holds k (answers ++ more)

-- the first answers moved to the end of another list, as long as they come before a position
pub record HandsBelow (below : ℕ) (answers others from to : List Placed) : Type 0 where
  pub run : List Placed
  pub parts : answers ≡ run ++ from
  pub before : All (λ (p : Placed). p.place < below) run
  pub got : to ≡ others ++ run

-- ---- one event, and a part of a segment

-- The seat processed the event and stored it: its answer follows all earlier ones, at the position of the seat's last
-- entry, and has octets as required.
pub record HasKept {K : Type 0} (holds : K → List Placed → Type 0) (board : Board) (seat : SeatKnowledge) (event : ℕ) (octets : Placed → Type 0) (before after : K) : Type 0 where
  pub answer : Placed
  pub place : length seat.seen ≡ answer.place + 1
  pub event_is : answer.answer.event ≡ event
  pub is : IsAnswer board seat answer
  pub said : octets answer
  pub held : (answers : List Placed) → holds before answers → holds after (answers ++ answer ∷ [])

-- an event that is not a frame has no octets
abbrev pub has_no_octets : Placed → Type 0
has_no_octets p = p.answer.octets ≡ []

-- From v to w a prefix of the part was processed, as `Works` states, and the sink holds its answers. The octets of
-- each are as required, for the seat's knowledge at the end.
pub record KeepsWork {K : Type 0} (holds : K → List Placed → Type 0) (board : Board) (octets : SeatKnowledge → Placed → Type 0) (part : List ℕ) (v : SeatKnowledge) (sink : K) (whole : Bool) (w : SeatKnowledge) : Type 0 where
  pub answers : List Placed
  pub held : holds sink answers
  pub works : Works board part v answers whole w
  pub said : All (octets w) answers

-- ---- the same, of the context of a run, the seat and the sink

module _ {B G R S K : Type 0} (holds : K → List Placed → Type 0) (board : B → Board) (known : S → SeatKnowledge) where
  -- a call processor processed the event and stored it, without octets
  abbrev pub KeepsEvent : RunContext B G R → ℕ → Borrowed S → Borrowed K → Type 0
  KeepsEvent cx event seat sink = HasKept holds (board cx.board.now) (known seat.exit.now) event has_no_octets sink.entry.now sink.exit.now

  -- a call processor processed a prefix of its part, and the sink holds its answers, without octets
  abbrev pub KeepsEvents : RunContext B G R → (segment processor : ℕ) → Borrowed S → Borrowed K → Bool → Type 0
  KeepsEvents cx segment processor seat sink whole =
      KeepsWork holds (board cx.board.now) (λ seat. has_no_octets) (part_of cx.trace.now segment (Processor processor)) (known seat.entry.now) sink.exit.now whole (known seat.exit.now)

module _ {B G R S K : Type 0} (holds : K → List Placed → Type 0) (plays : Plays) (board : B → Board) (known : S → SeatKnowledge) where
  -- the frame worker processed the frame and stored it, with the octets that the engine outputs in it
  abbrev pub KeepsFrame : RunContext B G R → ℕ → Borrowed S → Borrowed K → Type 0
  KeepsFrame cx event seat sink =
      HasKept holds (board cx.board.now) (known seat.exit.now) event (HasFrame plays (table_of cx.trace.now.tones) (board cx.board.now) (known seat.exit.now)) sink.entry.now sink.exit.now

  -- the frame worker processed a prefix of the segment's frames, and the sink holds their answers, with the octets that
  -- the engine outputs
  abbrev pub KeepsFrames : RunContext B G R → (segment : ℕ) → Borrowed S → Borrowed K → Bool → Type 0
  KeepsFrames cx segment seat sink whole =
      KeepsWork holds (board cx.board.now) (HasFrame plays (table_of cx.trace.now.tones) (board cx.board.now)) (part_of cx.trace.now segment Frame_worker) (known seat.entry.now) sink.exit.now whole
      (known seat.exit.now)
