-- A run of a segment, from the knowledge of seat 0 before it to its knowledge after it. Source: this project.
use Rattle.std.specs.Prelude.{◌≡◌, ℕ, ◌+◌, ◌<◌, ◌≤◌, ◌^◌, IsTrue, List, [], ◌++◌, length, map, filter, slice_get, Some, All}
use Rattle.circuit_model.specs.declared.circuit.Kind.{Kind}
use Rattle.circuit_model.specs.FrameInput.{Input}
use Rattle.exchange_events.specs.declared.answer.Answer.{Answer}
use Rattle.exchange_events.specs.declared.reply.Reply.{Reply}
use Rattle.exchange_events.specs.declared.trace.Event.TheVariants.{Frame}
use Rattle.exchange_events.specs.declared.trace.Trace.{Trace}
use Rattle.exchange_events.specs.Kept.{kept_of}
use Rattle.exchange_events.specs.Orders.{Worker, IsEvent, segment_of}
use Rattle.seat_history.specs.declared.seat_knowledge.SeatKnowledge.{SeatKnowledge}
use Rattle.seat_history.specs.Histories.{StartsWith, before, unseen}
use Rattle.seat_history.specs.Seats.{Settled}
use Rattle.exchange_core.specs.Boards.{Board, IsFrame, AnswersAt, turns_of, world_at}
use Rattle.call_profile.specs.Step.{MovesAtMost}
use Rattle.exchange_core.specs.Working.{Entry, IsNumbered, order_of}
use Rattle.exchange_events.specs.Sizes.{Dimensions}
use Rattle.tone_rules.specs.Tables.{table_of}
use Rattle.call_processor.specs.Frames.{Carrying, Plays, IsPlayed, IsReady, IsReadyAt}
use Rattle.call_processor.specs.Parts.{events_of_segment, is_its, part_of}
use Rattle.call_processor.specs.declared.worked.Placed.{Placed}
use Rattle.segment_run.specs.declared.answers.SegmentAnswer.{SegmentAnswer}
use Rattle.segment_run.specs.declared.answers.SegmentOutput.{SegmentOutput}

-- seat 0 between two segments: it holds the baton, all other seats are joined, and its knowledge accounts for the whole
-- history
pub record IsChief (turns : ℕ) (v : SeatKnowledge) : Type 0 where
  pub number : v.number ≡ 0
  pub baton : IsTrue v.baton
  pub joined : v.made ≡ length v.kept
  pub settled : Settled turns v

-- the numbers of the events that were added to the history, in the order in which they were processed
abbrev pub new_events : SeatKnowledge → SeatKnowledge → List ℕ
new_events v w = order_of (unseen v.seen w.seen)

-- the events among these that the worker processes
abbrev pub of_worker : Trace → Worker → List ℕ → List ℕ
of_worker trace worker events = filter (is_its trace worker) events

-- the event is one of the segment, counted from 0
abbrev pub IsOfSegment : Trace → ℕ → ℕ → Type 0
IsOfSegment trace segment n = IsEvent trace n × (segment_of trace.segments n ≡ segment)

-- the history grew only by events of the segment: by a prefix of each worker's part in file order, with a turn for each
pub record Ran (trace : Trace) (segment : ℕ) (v w : SeatKnowledge) : Type 0 where
  pub begins : StartsWith w.seen v.seen
  pub only : All (IsOfSegment trace segment) (new_events v w)
  pub fronts : (worker : Worker) → (rest : List ℕ) × (part_of trace segment worker ≡ of_worker trace worker (new_events v w) ++ rest)
  pub turns : w.left + length (new_events v w) ≡ v.left
  pub few : w.made ≤ v.made + 9

-- each worker's whole part is in the new history
abbrev pub RanWhole : Trace → ℕ → SeatKnowledge → SeatKnowledge → Type 0
RanWhole trace segment v w = (worker : Worker) → of_worker trace worker (new_events v w) ≡ part_of trace segment worker

-- the answer is to the history's event at this position: it has the exchange's reply after the history before it; for a
-- frame it has the octets that the engine outputs, and otherwise none
pub record IsAnswered (plays : Plays) (tones : Kind → List ℕ) (board : Board) (history : List Entry) (place : ℕ) (a : Answer) : Type 0 where
  pub reply : Reply
  pub given : AnswersAt board (before place history) a.event reply
  pub few : MovesAtMost board.bound reply
  pub keeps : a.reply ≡ kept_of reply
  pub played : (input : Input) → IsNumbered board.trace a.event (Frame input)
      → IsPlayed plays tones board.trace.external (world_at board (before place history)) input a.octets
  pub silent : (IsFrame board.trace a.event → ⊥) → a.octets ≡ []

-- these are the answers to the new events of the history, in its order
pub record AreAnswered (plays : Plays) (tones : Kind → List ℕ) (board : Board) (v w : SeatKnowledge) (answers : List Answer) : Type 0 where
  pub events : map (λ (a : Answer). a.event) answers ≡ new_events v w
  pub each : (i : ℕ) (a : Answer) → slice_get answers i ≡ Some a → IsAnswered plays tones board w.seen (length v.seen + i) a

-- the result of a segment has the answers to the new events of the history, with the tones of the trace
abbrev pub HasAnswers : {E : Type 0} → Plays → Board → Trace → SeatKnowledge → SeatKnowledge → SegmentAnswer E → Type 0
HasAnswers plays board trace v w a = AreAnswered plays (table_of trace.tones) board v w a.answers.items

-- seat 0 has a turn for each event of the segment
abbrev pub HasTurns : Trace → ℕ → SeatKnowledge → Type 0
HasTurns trace segment v = length (events_of_segment trace segment) ≤ v.left

-- from v to w the history grew by one entry for each event of the segment
abbrev pub HasGrown : Trace → ℕ → SeatKnowledge → SeatKnowledge → Type 0
HasGrown trace segment v w = length w.seen ≡ length v.seen + length (events_of_segment trace segment)

-- the segment may be run: seat 0 knows v, holds the baton, and has numbers left for the seats of the workers and a turn
-- for each event
pub record MayRun (board : Board) (trace : Trace) (segment : ℕ) (v : SeatKnowledge) : Type 0 where
  pub trace_is : trace ≡ board.trace
  pub within : segment < length trace.segments
  pub chief : IsChief (turns_of board) v
  pub numbers : v.made + 10 < 2 ^ 32
  pub turns : HasTurns trace segment v

-- an answer sink holds, after its earlier contents, the answers to the new events of the history
pub record AddsAnswers {K : Type 0} (holds : K → List Placed → Type 0) (plays : Plays) (tones : Kind → List ℕ) (board : Board) (v w : SeatKnowledge) (kept : List Placed) (sink : K) : Type 0 where
  pub answers : List Placed
  pub answered : AreAnswered plays tones board v w (map (λ (p : Placed). p.answer) answers)
  pub held : holds sink (kept ++ answers)

-- from v to w the whole segment was run, and the returned machine is ready for the next frame
pub record RanTo {T E K : Type 0} (carries : Carrying E) (next : E → ℕ) (sizes : E → Dimensions) (board : Board) (trace : Trace) (segment : ℕ) (v w : SeatKnowledge) (a : SegmentOutput T E K) : Type 0 where
  pub whole : RanWhole trace segment v w
  pub long : HasGrown trace segment v w
  pub ready : IsReadyAt carries next sizes board w a.machine.value

-- from v to w the whole segment was run, and this is its result
pub record IsAnswerOf {E : Type 0} (plays : Plays) (carries : Carrying E) (next : E → ℕ) (sizes : E → Dimensions) (board : Board) (trace : Trace) (segment : ℕ) (v w : SeatKnowledge) (a : SegmentAnswer E) : Type 0 where
  pub whole : RanWhole trace segment v w
  pub long : HasGrown trace segment v w
  pub answered : AreAnswered plays (table_of trace.tones) board v w a.answers.items
  pub ready : IsReady carries next sizes board w.seen a.engine a.tool
