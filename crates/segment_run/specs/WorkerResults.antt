-- The results of all workers of a segment, once their seats are joined. Source: this project.
use Rattle.std.specs.Prelude.{◌≡◌, ℕ, ◌+◌, ◌≤◌, IsTrue, List, length, map, vec_capacity}
use Rattle.exchange_events.specs.declared.trace.Trace.{Trace}
use Rattle.seat_history.specs.declared.seat_knowledge.SeatKnowledge.{SeatKnowledge}
use Rattle.exchange_core.specs.Boards.{Board, turns_of}
use Rattle.exchange_events.specs.Sizes.{Dimensions}
use Rattle.tone_rules.specs.Tables.{table_of}
use Rattle.call_processor.specs.declared.worked.Placed.{Placed}
use Rattle.call_processor.specs.Frames.{Carrying, Plays, IsReadyAt}
use Rattle.call_processor.specs.Parts.{events_of_segment}
use Rattle.segment_run.specs.declared.working.WorkerResults.{WorkerResults}
use Rattle.segment_run.specs.Merging.{AreApart}
use Rattle.segment_run.specs.Merging.{IsMerged, Keep}
use Rattle.segment_run.specs.Merging.{all_of}
use Rattle.segment_run.specs.Pools.{HasRoom}
use Rattle.segment_run.specs.Segment.{AreAnswered, HasGrown, IsChief, Ran, RanWhole}

-- no buffers were lost, and all lists have the capacity of a buffer pool's
pub record IsComplete {T E K : Type 0} (g : WorkerResults T E K) : Type 0 where
  pub nine : length g.unused.items + length g.used.items ≡ 9
  pub wide : 9 ≤ vec_capacity g.unused
  pub used_wide : 9 ≤ vec_capacity g.used
  pub jobs : HasRoom g.batch.jobs
  pub done : HasRoom g.batch.done

-- From v to w all workers processed their whole parts, and the machine is ready for the next frame. The used buffers
-- hold answers that are, once merged, the answers to the new events of the history.
pub record AllDone {T E K : Type 0} (holds : K → List Placed → Type 0) (plays : Plays) (carries : Carrying E) (next : E → ℕ) (sizes : E → Dimensions) (board : Board) (trace : Trace) (segment : ℕ) (v w : SeatKnowledge) (g : WorkerResults T E K) : Type 0 where
  pub whole : RanWhole trace segment v w
  pub long : HasGrown trace segment v w
  pub ready : IsReadyAt carries next sizes board w g.machine.value
  pub parts : List (List Placed)
  pub kept : Keep holds g.used.items parts
  pub apart : AreApart parts
  pub many : length (all_of parts) ≡ length (events_of_segment trace segment)
  pub answered : (answers : List Placed) → IsMerged parts answers → AreAnswered plays (table_of trace.tones) board v w (map (λ (p : Placed). p.answer) answers)

-- From v to w each worker processed a prefix of its part, and seat 0 joined all others. If all parts are whole, the
-- whole segment was processed and answered.
pub record HasWorked {T E K : Type 0} (holds : K → List Placed → Type 0) (plays : Plays) (carries : Carrying E) (next : E → ℕ) (sizes : E → Dimensions) (board : Board) (trace : Trace) (segment : ℕ) (v w : SeatKnowledge) (g : WorkerResults T E K) : Type 0 where
  pub chief : IsChief (turns_of board) w
  pub ran : Ran trace segment v w
  pub done : IsTrue g.whole → AllDone holds plays carries next sizes board trace segment v w g
