-- A run of a trace, segment by segment. Source: this project.
use Rattle.std.specs.Prelude.{◌≡◌, ◌++◌, ℕ, Bool, IsSomeAnd, List, All, Result, Ok, Err, None, Some, map}
use Rattle.std.specs.declared.alloc.Global.{Global}
use Rattle.std.specs.declared.dyn_box.DynBox.{DynBox}
use Rattle.tone_rules.specs.Tables.{table_of}
use Rattle.seat_history.specs.declared.seat_knowledge.SeatKnowledge.{SeatKnowledge}
use Rattle.control_memory.specs.declared.path_map.PathMap.{Ghosts as PathMembers}
use Rattle.ex_io.specs.declared.ends.Sink.{Ghosts as SinkMembers}
use Rattle.exchange_core.specs.Boards.{Board, setting_at, world_at}
use Rattle.exchange_core.specs.Working.{Entry}
use Rattle.exchange_events.specs.declared.trace.Trace.{Trace}
use Rattle.frame_engine.specs.declared.carrier.Carrier.{Ghosts as CarrierMembers}
use Rattle.call_profile.specs.Step.{run, events_of, MovesAtMost}
use Rattle.segment_run.specs.Segment.{AddsAnswers, new_events}
use Rattle.call_processor.specs.Borrowed.{Borrowed}
use Rattle.call_processor.specs.Frames.{IsReady, Plays}
use Rattle.call_processor.specs.declared.worked.Placed.{Placed}
use Rattle.report_lines.specs.declared.listing.Listing.{Listing}
use Rattle.report_lines.specs.Lines.{Line, calls_of, line_of, listed, text_of}
use Rattle.std.specs.declared.option.Option.{Option}
use Rattle.exchange_run.specs.declared.run.RunError.{RunError}
use Rattle.exchange_run.specs.declared.run.RunError.TheVariants.{Memory, Write}
use Rattle.run_verifier.specs.declared.ending.Ending.{Ending}
use Rattle.run_verifier.specs.declared.ending.Ending.TheVariants as ended
use Rattle.exchange_run.specs.declared.segments.SegmentResources.{SegmentResources}
use Rattle.exchange_run.specs.declared.call_context.Metering.{Metering}
use Rattle.exchange_run.specs.Commands.{fabric_of}
use Rattle.exchange_run.specs.Outcomes.{Fabric, Part, Runs, output, parties}
use Rattle.exchange_events.specs.declared.record.CallRecord.{CallRecord}
use Rattle.report_text.specs.RunReport.{event_lines}
use Rattle.linked_exchange.specs.Telling.{Telling}
use Rattle.exchange_run.specs.Telling.{metered_together}
use Rattle.call_profile.specs.CallsTold.{calls_ended}

-- the fabric of a board
abbrev pub fabric_at : Board → Fabric
fabric_at board = record { slots = board.slots; max_moves = board.bound }

-- the board of a trace over a map of paths, and over a strict fabric or the other
abbrev pub board_on : {P : Type 0} → PathMembers P → P → Trace → Board
board_on members paths trace = record { trace = trace; slots = members.depth paths; bound = members.bound paths }

abbrev pub board_for : Bool → Trace → Board
board_for strict trace = record { trace = trace; slots = (fabric_of strict trace).slots; bound = (fabric_of strict trace).max_moves }

-- the machine for the next segment is there, and is ready for the next frame after this history
abbrev pub HasMachine : {T E L : Type 0} → CarrierMembers E → Board → List Entry → Option (SegmentResources T E L) → Type 0
HasMachine members board history carried =
    IsSomeAnd carried (λ c. IsReady members.carries members.next members.sizes board history c.machine.value.engine c.machine.value.context.tool)

-- the lines of the new events of the history, in which no new path moved more live paths than the board's fabric allows
abbrev pub grown_lines : Plays → Board → SeatKnowledge → SeatKnowledge → List ℕ
grown_lines plays board v w = event_lines (plays (table_of board.trace.tones)) (setting_at board) (world_at board v.seen) (new_events v w) (events_of board.trace.events (new_events v w))

abbrev pub GrewFew : Board → SeatKnowledge → SeatKnowledge → Type 0
GrewFew board v w = All (MovesAtMost board.bound) (run (setting_at board) (world_at board v.seen) (events_of board.trace.events (new_events v w)))

-- the calls that ended in the new events of the history
abbrev pub grown_calls : Board → SeatKnowledge → SeatKnowledge → List CallRecord
grown_calls board v w = calls_ended (run (setting_at board) (world_at board v.seen) (events_of board.trace.events (new_events v w)))

-- meters recorded the calls that ended in the new events of the history
abbrev pub GrowthIsTold : Telling → Board → SeatKnowledge → SeatKnowledge → Type 0
GrowthIsTold told board v w = told (grown_calls board v w)

-- the lines of the new events of the history were appended to a text, if lines are listed
abbrev pub AddsText : Plays → Listing → Board → SeatKnowledge → SeatKnowledge → List Line → List Line → Type 0
AddsText plays l board v w before after = text_of after ≡ text_of before ++ listed l (grown_lines plays board v w)

-- the lines belong to some answers
abbrev pub AreOfAnswers : Listing → List Line → Type 0
AreOfAnswers l lines = (answers : List Placed) × (lines ≡ map (line_of l) answers)

-- if the lines before belong to answers, the lines after belong to these and to the answers to the new events of the
-- history
abbrev pub AddsAnswerLines : Plays → Listing → Trace → Board → SeatKnowledge → SeatKnowledge → List Line → List Line → Type 0
AddsAnswerLines plays l trace board v w before after =
    (kept : List Placed) → before ≡ map (line_of l) kept → AddsAnswers (λ k answers. k ≡ map (line_of l) answers) plays (table_of trace.tones) board v w kept after

-- the lines belong to some answers; a segment added the lines of the new events of the history, and their calls; few
-- paths were moved in them
pub record IsAdded (plays : Plays) (l : Listing) (board : Board) (v w : SeatKnowledge) (before after : List Line) : Type 0 where
  pub kept : AreOfAnswers l after
  pub lines : AddsText plays l board v w before after
  pub few : GrewFew board v w
  pub calls : calls_of after ≡ calls_of before ++ grown_calls board v w

-- the ending for a run's result, with the engine that is returned
abbrev pub ending_of : {C : Type 0} → Result C RunError → Ending
ending_of (Ok engine) = ended.Completed
ending_of (Err Write) = ended.WriteFailed
ending_of (Err Memory) = ended.OutOfMemory

abbrev pub engine_of : {C : Type 0} → Result C RunError → Option C
engine_of (Ok engine) = Some engine
engine_of (Err fault) = None

-- a run as a part of a call: its result and the processed events, with its sink and its meters
abbrev pub run_part : {E K V : Type 0} {F : V → Type 0} → CarrierMembers E → Result E RunError → List ℕ → SinkMembers K → Borrowed K
    → (DynBox V Global F → List CallRecord → Type 0) → (DynBox V Global F → List CallRecord → List ℕ) → Borrowed (Metering V F) → Part
run_part carrier result order members sink stands text metering = record {
  parties = parties carrier (engine_of result) order (metered_together stands text metering) (output members sink);
  ending = ending_of result;
}

-- a part of a call is a run of a board's trace on its fabric, with this listing
abbrev pub RunsOn : Part → Listing → Board → Type 0
RunsOn p l board = Runs p.parties (fabric_at board) l board.trace p.ending
