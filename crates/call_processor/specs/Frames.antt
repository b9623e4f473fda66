-- The frames that a frame worker's engine carries, and the octets that it outputs. Source: this project.
use Rattle.std.specs.Prelude.{◌≡◌, ℕ, List, [], length}
use Rattle.circuit_model.specs.declared.circuit.Circuit.{Circuit}
use Rattle.circuit_model.specs.declared.circuit.Kind.{Kind}
use Rattle.circuit_model.specs.FrameInput.{Input}
pub use Rattle.circuit_model.specs.Hears.{Plays}
use Rattle.circuit_model.specs.Ports.{Ports}
use Rattle.frame_engine.specs.Frames.{PlaysOut}
use Rattle.exchange_core.specs.declared.tool.Tool.{Tool}
use Rattle.exchange_events.specs.declared.trace.Event.TheVariants.{Frame}
use Rattle.seat_history.specs.declared.seat_knowledge.SeatKnowledge.{SeatKnowledge}
use Rattle.seat_history.specs.Histories.{before}
use Rattle.exchange_core.specs.Boards.{Board, setting_at, world_at}
use Rattle.exchange_core.specs.Working.{Entry, IsNumbered, IsToolFor}
use Rattle.exchange_events.specs.Sizes.{Dimensions}
use Rattle.call_profile.specs.World.{World, pass}
use Rattle.call_processor.specs.declared.machine.Machine.{Machine}
use Rattle.call_processor.specs.declared.worked.Placed.{Placed}

-- the frames that an engine of some type carries: their inputs, circuits and conference ports
abbrev pub Carrying : Type 0 → Type 1
Carrying E = E → List Input → List (List Circuit) → List Ports → Type 0

-- the engine carries the frames of this exchange state
abbrev pub CarriesFrames : {E : Type 0} → Carrying E → E → World → Type 0
CarriesFrames carries engine w = carries engine w.inputs w.held w.seated

-- a tool for any frame: a control memory of this size
abbrev pub IsFrameTool : Dimensions → Tool → Type 0
IsFrameTool d tool = IsToolFor d (Frame []) tool

-- the engine and the tool are ready for the next frame after this history: the engine carries the history's frames, its
-- next frame is the history's, and both are of the exchange's size
pub record IsReady {E : Type 0} (carries : Carrying E) (next : E → ℕ) (sizes : E → Dimensions) (board : Board) (history : List Entry) (engine : E) (tool : Tool) : Type 0 where
  pub carried : CarriesFrames carries engine (world_at board history)
  pub number : next engine ≡ (world_at board history).holding.next
  pub sized : sizes engine ≡ (setting_at board).dimensions
  pub image : IsFrameTool (setting_at board).dimensions tool

-- the engine and the tool are ready for the next frame after the history that a seat has seen
abbrev pub IsReadyFor : {E : Type 0} → Carrying E → (E → ℕ) → (E → Dimensions) → Board → SeatKnowledge → E → Tool → Type 0
IsReadyFor carries next sizes board v engine tool = IsReady carries next sizes board v.seen engine tool

-- the engine and the control memory of a machine are ready for the next frame after the history that a seat has seen
abbrev pub IsReadyAt : {E : Type 0} → Carrying E → (E → ℕ) → (E → Dimensions) → Board → SeatKnowledge → Machine E → Type 0
IsReadyAt carries next sizes board v m = IsReadyFor carries next sizes board v m.engine m.context.tool

-- in the frame with this input, which begins in this exchange state, the octets are the engine's output for each
-- external line
pub record IsPlayed (plays : Plays) (tones : Kind → List ℕ) (external : ℕ) (w : World) (input : Input) (octets : List (List ℕ)) : Type 0 where
  pub lines : length octets ≡ external
  pub played : PlaysOut external (plays tones (pass w input).inputs (pass w input).held w.holding.next) octets

-- an answer to a frame has the octets that the engine outputs in it
abbrev pub HasFrame : Plays → (Kind → List ℕ) → Board → SeatKnowledge → Placed → Type 0
HasFrame plays tones board seat p = (input : Input) → IsNumbered board.trace p.answer.event (Frame input)
    → IsPlayed plays tones board.trace.external (world_at board (before p.place seat.seen)) input p.answer.octets
