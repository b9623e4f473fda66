-- The setting of a switchboard and its reply at a history. A seat is the right to process a number of events of a
-- trace; all seats of a board share one history. Source: this project.
use Rattle.std.specs.Prelude.{◌≡◌, ℕ, ◌+◌, ◌<◌, IsTrue, List, length}
use Rattle.circuit_model.specs.FrameInput.{Input}
use Rattle.seat_history.specs.declared.seat_knowledge.SeatKnowledge.{SeatKnowledge}
use Rattle.seat_history.specs.Histories.{Entry, HasNone, StartsWith, before, entries_of, unseen}
use Rattle.seat_history.specs.Seats.{HasJoinedAll, Settled, after_step}
use Rattle.exchange_events.specs.declared.reply.Reply.{Reply}
use Rattle.exchange_core.specs.declared.tool.Tool.{Tool}
use Rattle.exchange_events.specs.declared.trace.Event.{Event}
use Rattle.exchange_events.specs.declared.trace.Event.TheVariants.{Frame}
use Rattle.exchange_events.specs.declared.trace.Trace.{Trace}
use Rattle.exchange_events.specs.Sizes.{Setting}
use Rattle.exchange_events.specs.Sound.{IsSound, setting_of}
use Rattle.call_profile.specs.Step.{MovesAtMost, reply}
use Rattle.exchange_core.specs.Working.{IsNumbered, IsToolFor, ShowsWorld, order_of, world_after}
use Rattle.call_profile.specs.World.{World}

-- the trace, the number of internal slots, and the maximum number of live paths that a new path moves
pub record Board : Type 0 where
  pub trace : Trace
  pub slots : ℕ
  pub bound : ℕ

-- the number of turns of a board: one for each event
abbrev pub turns_of : Board → ℕ
turns_of board = length board.trace.events

abbrev pub setting_at : Board → Setting
setting_at board = setting_of board.slots board.trace

-- the exchange state after a history
abbrev pub world_at : Board → List Entry → World
world_at board history = world_after board.slots board.trace (order_of history)

-- the trace's event with this number is a frame
abbrev pub IsFrame : Trace → ℕ → Type 0
IsFrame trace n = (input : Input) × IsNumbered trace n (Frame input)

-- no entry belongs to a frame
abbrev pub NoFrames : Trace → List Entry → Type 0
NoFrames trace history = HasNone (IsFrame trace) history

-- the tool fits the event with this number
abbrev pub IsToolAt : Board → ℕ → Tool → Type 0
IsToolAt board n tool = (e : Event) → IsNumbered board.trace n e → IsToolFor (setting_at board).dimensions e tool

-- this is the exchange's reply to the event with this number after this history
abbrev pub AnswersAt : Board → List Entry → ℕ → Reply → Type 0
AnswersAt board history n answer = (e : Event) → IsNumbered board.trace n e → answer ≡ reply (setting_at board) (world_at board history) e

-- if the event with this number is a frame, the tool shows the exchange state after this history
abbrev pub ShowsAt : Board → List Entry → ℕ → Tool → Type 0
ShowsAt board history n tool = (e : Event) → IsNumbered board.trace n e → ShowsWorld (world_at board history) e tool

-- ---- a turn

-- A seat has processed an event of the board's trace in its turn, at position n of the history. It has one turn less,
-- and its entry follows the history before it and is among its own entries. If it held the baton, it had seen each
-- frame of that history. The knowledge of seat 0 adds up, and if all other seats are joined, no other seat processed an
-- event in between. The reply is the exchange's after that history, with bounded numbers of moves. If the event is a
-- frame, the tool shows the exchange state after that history.
pub record HasTakenTurn (board : Board) (old new : SeatKnowledge) (n event : ℕ) (answer : Reply) (memory : Tool) : Type 0 where
  pub sound : IsSound board.trace
  pub seat : new ≡ after_step (before n new.seen) event old
  pub place : length new.seen ≡ n + 1
  pub below : n < turns_of board
  pub begins : StartsWith (before n new.seen) old.seen
  pub own : new.own ≡ entries_of new.number new.seen
  pub frames : IsTrue old.baton → NoFrames board.trace (unseen old.seen (before n new.seen))
  pub settled : old.number ≡ 0 → Settled (turns_of board) new
  pub alone : old.number ≡ 0 → HasJoinedAll old → before n new.seen ≡ old.seen
  pub reply : AnswersAt board (before n new.seen) event answer
  pub few : MovesAtMost board.bound answer
  pub shows : ShowsAt board (before n new.seen) event memory
  pub tool : IsToolAt board event memory
