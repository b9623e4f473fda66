-- The jobs of a segment's workers, and their results. Source: this project.
use Rattle.std.specs.Prelude.{◌≡◌, ℕ, ◌+◌, ◌<◌, ◌≤◌, List, [], length, map, All, vec_len, vec_capacity}
use Rattle.std.specs.List.{AllZip}
use Rattle.circuit_model.specs.declared.circuit.Kind.{Kind}
use Rattle.exchange_events.specs.declared.trace.Trace.{Trace}
use Rattle.exchange_events.specs.Orders.{Processor}
use Rattle.seat_history.specs.declared.seat_knowledge.SeatKnowledge.{SeatKnowledge}
use Rattle.exchange_core.specs.Boards.{Board}
use Rattle.exchange_events.specs.Sizes.{Dimensions}
use Rattle.call_processor.specs.declared.machine.Machine.{Machine}
use Rattle.call_processor.specs.declared.worked.WorkerOutput.{WorkerOutput}
use Rattle.call_processor.specs.declared.worked.Placed.{Placed}
use Rattle.call_processor.specs.Frames.{Carrying, HasFrame, Plays, IsReadyAt}
use Rattle.call_processor.specs.Keeping.{has_no_octets}
use Rattle.call_processor.specs.Parts.{part_of}
use Rattle.call_processor.specs.Work.{MayWork}
use Rattle.call_processor.specs.WorkerOutputs.{HasWorked}
use Rattle.segment_run.specs.declared.batch.JobBatch.{JobBatch}
use Rattle.segment_run.specs.declared.dealing.Job.{Job}
use Rattle.segment_run.specs.declared.parallel.BatchOutput.{BatchOutput}
use Rattle.segment_run.specs.Workers.{part_numbered}
use Rattle.tone_rules.specs.Tables.{table_of}

-- the call processor with this job may process its part
abbrev pub MayProcess : {T K : Type 0} → (T → SeatKnowledge) → Board → Trace → ℕ → Job T K → Type 0
MayProcess known board trace segment j = (j.worker < trace.processors) × MayWork board trace segment (Processor j.worker) (known j.seat)

-- the call processor with this job processed its part
abbrev pub HasProcessed : {T K : Type 0} → (K → List Placed → Type 0) → (T → SeatKnowledge) → Board → Trace → ℕ → Job T K → WorkerOutput T K → Type 0
HasProcessed holds known board trace segment j f = HasWorked holds known board (λ w. has_no_octets) (part_of trace segment (Processor j.worker)) (known j.seat) f

-- each of the call processors with these jobs processed its part
abbrev pub HaveProcessed : {T K : Type 0} → (K → List Placed → Type 0) → (T → SeatKnowledge) → Board → Trace → ℕ → List (Job T K) → List (WorkerOutput T K) → Type 0
HaveProcessed holds known board trace segment jobs done = AllZip (HasProcessed holds known board trace segment) jobs done

-- an answer of the worker with this number has the octets that the engine outputs if it is to a frame, and none
-- otherwise
abbrev pub HasItsOctets : Plays → (Kind → List ℕ) → Board → Trace → ℕ → SeatKnowledge → Placed → Type 0
HasItsOctets plays tones board trace i w p = (i ≡ trace.processors → HasFrame plays tones board w p) × (i < trace.processors → has_no_octets p)

-- the worker with this job, a call processor or the frame worker, processed its part
abbrev pub HasDone : {T K : Type 0} → (K → List Placed → Type 0) → Plays → (Kind → List ℕ) → (T → SeatKnowledge) → Board → Trace → ℕ → Job T K → WorkerOutput T K → Type 0
HasDone holds plays tones known board trace segment j f =
    HasWorked holds known board (HasItsOctets plays tones board trace j.worker) (part_numbered trace segment j.worker) (known j.seat) f

-- each of the workers with these jobs processed its part
abbrev pub HaveDone : {T K : Type 0} → (K → List Placed → Type 0) → Plays → (T → SeatKnowledge) → Board → Trace → ℕ → List (Job T K) → List (WorkerOutput T K) → Type 0
HaveDone holds plays known board trace segment jobs done = AllZip (HasDone holds plays (table_of trace.tones) known board trace segment) jobs done

-- a batch processed n jobs, and none is left: it has the result of each, and both lists have the same capacity as
-- before
pub record IsThrough {T K : Type 0} (n : ℕ) (before after : JobBatch T K) : Type 0 where
  pub none : after.jobs.items ≡ []
  pub kept : vec_capacity after.jobs ≡ vec_capacity before.jobs
  pub room : vec_capacity before.done ≤ vec_capacity after.done
  pub count : length after.done.items ≡ n

-- the call processor with this job may begin, and its seat is one of the board's
abbrev pub MayStart : {T K : Type 0} → (T → Type 0) → (T → SeatKnowledge) → Board → Trace → ℕ → Job T K → Type 0
MayStart of_board known board trace segment j = of_board j.seat × MayProcess known board trace segment j

-- the call processors with a batch's jobs may begin: there is capacity for the results of each of them and of n workers
-- more, and no result yet
pub record MayBegin {T K : Type 0} (of_board : T → Type 0) (known : T → SeatKnowledge) (board : Board) (trace : Trace) (segment n : ℕ) (batch : JobBatch T K) : Type 0 where
  pub seated : All (λ j. of_board j.seat) batch.jobs.items
  pub may : All (MayProcess known board trace segment) batch.jobs.items
  pub room : vec_len batch.jobs + n ≤ vec_capacity batch.done
  pub empty : batch.done.items ≡ []

-- the call processors with these jobs processed their parts, and the batch has their results
pub record AreThrough {T K : Type 0} (holds : K → List Placed → Type 0) (of_board : T → Type 0) (known : T → SeatKnowledge) (board : Board) (trace : Trace) (segment : ℕ) (jobs : List (Job T K)) (before after : JobBatch T K) : Type 0 where
  pub through : IsThrough (length jobs) before after
  pub seated : All (λ f. of_board f.seat) after.done.items
  pub works : HaveProcessed holds known board trace segment jobs after.done.items

-- for each of these jobs, the machine is ready for the next frame after the history that its seat has seen
abbrev pub AreReady : {T E K : Type 0} → Carrying E → (E → ℕ) → (E → Dimensions) → (T → SeatKnowledge) → Board → Machine E → List (Job T K) → Type 0
AreReady carries next sizes known board machine jobs = All (λ j. IsReadyAt carries next sizes board (known j.seat) machine) jobs

-- if the frame worker has one of these jobs, the machine is ready again after it
abbrev pub StayReady : {T E K : Type 0} → Carrying E → (E → ℕ) → (E → Dimensions) → (T → SeatKnowledge) → Board → Trace → List (Job T K) → BatchOutput T E K → Type 0
StayReady carries next sizes known board trace jobs output =
    AllZip (λ j f. j.worker ≡ trace.processors → IsReadyAt carries next sizes board (known f.seat) output.machine.value) jobs output.batch.done.items

-- the workers' numbers, with the knowledge of their seats
abbrev pub seats_of : {T K : Type 0} → (T → SeatKnowledge) → List (Job T K) → List (ℕ × SeatKnowledge)
seats_of known jobs = map (λ j. (j.worker, known j.seat)) jobs
