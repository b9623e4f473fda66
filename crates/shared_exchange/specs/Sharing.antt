-- A switchboard over a lock: the lock's setting is the board. Source: this project.
use Rattle.std.specs.Prelude.{◌≡◌, ℕ, List}
use Rattle.seat_history.specs.Histories.{Entry}
use Rattle.exchange_events.specs.declared.reply.Reply.{Reply}
use Rattle.exchange_core.specs.declared.tool.Tool.{Tool}
use Rattle.exchange_core.specs.Boards.{Board, IsToolAt, AnswersAt, ShowsAt, turns_of}
use Rattle.exchange_events.specs.Sound.{IsSound}
use Rattle.call_profile.specs.Step.{MovesAtMost}
use Rattle.exchange_core.specs.Working.{Working}
use Rattle.turn_lock.specs.Locks.{IsSeatOf, Lock, SeatAt}

-- the board of a core, whatever its journal
abbrev pub board_of : Working → Board
board_of core = record { trace = core.trace; slots = core.slots; bound = core.bound }

-- the reply of a step at this history is the exchange's, with bounded numbers of moves, and for a frame the control
-- memory shows the exchange state
pub record Answers (board : Board) (history : List Entry) (event : ℕ) (answer : Reply) (tool : Tool) : Type 0 where
  pub reply : AnswersAt board history event answer
  pub few : MovesAtMost board.bound answer
  pub shows : ShowsAt board history event tool
  pub tool_is : IsToolAt board event tool

-- the setting of the lock has a sound trace, and the lock has a turn for each of its events
pub record IsBoard (lock : Lock Board) : Type 0 where
  pub sound : IsSound lock.setting.trace
  pub turns : lock.budget ≡ turns_of lock.setting

-- the seat is of this lock, whose trace is sound
pub record IsSeated (lock : Lock Board) (seat : SeatAt Board) : Type 0 where
  pub sound : IsSound lock.setting.trace
  pub seat_of : IsSeatOf lock seat
