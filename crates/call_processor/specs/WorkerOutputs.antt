-- The result of a part of a segment, with its buffers. Source: this project.
use Rattle.std.specs.Prelude.{ℕ, IsTrue, List}
use Rattle.seat_history.specs.declared.seat_knowledge.SeatKnowledge.{SeatKnowledge}
use Rattle.exchange_core.specs.Boards.{Board}
use Rattle.exchange_events.specs.Sizes.{Dimensions}
use Rattle.call_processor.specs.declared.worked.WorkerOutput.{WorkerOutput}
use Rattle.call_processor.specs.declared.worked.FrameWorkerOutput.{FrameWorkerOutput}
use Rattle.call_processor.specs.declared.worked.Framed.{Framed}
use Rattle.call_processor.specs.declared.machine.Machine.{Machine}
use Rattle.call_processor.specs.declared.worked.Placed.{Placed}
use Rattle.call_processor.specs.Frames.{Carrying, IsReady, IsReadyAt, HasFrame, Plays}
use Rattle.call_processor.specs.Keeping.{KeepsWork, has_no_octets}
use Rattle.tone_rules.specs.Tables.{table_of}
use Rattle.exchange_events.specs.declared.trace.Trace.{Trace}
use Rattle.exchange_events.specs.Orders.{Frame_worker, Processor}
use Rattle.call_processor.specs.declared.worked.Worked.{Worked}
use Rattle.call_processor.specs.Parts.{part_of}
use Rattle.call_processor.specs.Work.{MayWork, Works}

-- the worker processed this part, starting from this knowledge of its seat, and the sink of the buffers holds its
-- answers
abbrev pub HasWorked : {T K : Type 0} → (K → List Placed → Type 0) → (T → SeatKnowledge) → Board → (SeatKnowledge → Placed → Type 0) → List ℕ → SeatKnowledge → WorkerOutput T K → Type 0
HasWorked holds known board octets part v f = KeepsWork holds board octets part v f.buffers.sink f.whole (known f.seat)

-- a call processor processed its part of a segment, and no answer has octets
abbrev pub HasDoneEvents : {T K : Type 0} → (K → List Placed → Type 0) → (T → SeatKnowledge) → Board → Trace → ℕ → ℕ → SeatKnowledge → WorkerOutput T K → Type 0
HasDoneEvents holds known board trace segment n v f = HasWorked holds known board (λ seat. has_no_octets) (part_of trace segment (Processor n)) v f

-- the frame worker processed the frames of a segment, and their answers have the octets that the engine outputs
abbrev pub HasDoneFrames : {T K : Type 0} → (K → List Placed → Type 0) → Plays → (T → SeatKnowledge) → Board → Trace → ℕ → SeatKnowledge → WorkerOutput T K → Type 0
HasDoneFrames holds plays known board trace segment v f =
    HasWorked holds known board (HasFrame plays (table_of trace.tones) board) (part_of trace segment Frame_worker) v f

-- the worker processed this part, starting from this knowledge of its seat, and these are its answers
abbrev pub HasAnswered : {T : Type 0} → (T → SeatKnowledge) → Board → List ℕ → SeatKnowledge → Worked T → Type 0
HasAnswered known board part v d = Works board part v d.answers.items d.whole (known d.seat)

-- the frame worker returned an engine and a tool that are ready for the next frame after the history that it has seen
abbrev pub EndsReady : {T E : Type 0} → Carrying E → (E → ℕ) → (E → Dimensions) → (T → SeatKnowledge) → Board → Framed T E → Type 0
EndsReady carries next sizes known board f = IsReady carries next sizes board (known f.worked.seat).seen f.engine f.tool

-- the frame worker returned a machine that is ready for the next frame after the history that it has seen
abbrev pub FinishesReady : {T E K : Type 0} → Carrying E → (E → ℕ) → (E → Dimensions) → (T → SeatKnowledge) → Board → FrameWorkerOutput T E K → Type 0
FinishesReady carries next sizes known board f = IsReadyAt carries next sizes board (known f.output.seat) f.machine.value

-- the frame worker, whose seat knows v, may process the frames of this segment with this machine
pub record MayDoFrames {E : Type 0} (carries : Carrying E) (next : E → ℕ) (sizes : E → Dimensions) (board : Board) (trace : Trace) (segment : ℕ) (v : SeatKnowledge) (m : Machine E) : Type 0 where
  pub work : MayWork board trace segment Frame_worker v
  pub baton : IsTrue v.baton
  pub ready : IsReadyAt carries next sizes board v m

-- the frame worker processed the frames of a segment, and its machine is ready for the next one
pub record HasRunFrames {T E K : Type 0} (holds : K → List Placed → Type 0) (plays : Plays) (carries : Carrying E) (next : E → ℕ) (sizes : E → Dimensions) (known : T → SeatKnowledge) (board : Board) (trace : Trace) (segment : ℕ) (v : SeatKnowledge) (f : FrameWorkerOutput T E K) : Type 0 where
  pub works : HasDoneFrames holds plays known board trace segment v f.output
  pub ready : FinishesReady carries next sizes known board f
