-- A lock and its seats, as a caller knows them. Source: this project.
use Rattle.std.specs.Prelude.{◌≡◌, ℕ, Bool, Option, Some}
use Rattle.atomic_table.specs.Seated.{TableId}
use Rattle.seat_history.specs.declared.seat_knowledge.SeatKnowledge.{SeatKnowledge}
use Rattle.turn_lock.specs.declared.board.View.{View}

-- a lock: its identity, and the setting and the budget that it was opened with
pub record Lock (C : Type 0) : Type 0 where
  pub id : TableId
  pub setting : C
  pub budget : ℕ

-- a seat between two calls: its lock, with setting and budget, its knowledge, and whether its last step kept the turn
pub record SeatAt (C : Type 0) : Type 0 where
  pub lock : TableId
  pub setting : Option C
  pub budget : ℕ
  pub known : SeatKnowledge
  pub keeps : Bool

module _ {C : Type 0} where
  -- the seat is one of this lock's, and knows its setting and its budget
  pub record IsSeatOf (lock : Lock C) (seat : SeatAt C) : Type 0 where
    pub lock_is : seat.lock ≡ lock.id
    pub setting_is : seat.setting ≡ Some lock.setting
    pub budget_is : seat.budget ≡ lock.budget

  -- a seat with this view, except for the fields that only a call in progress needs
  abbrev pub seat_with : TableId → View C → Bool → SeatAt C
  seat_with lock v keeps = record { lock = lock; setting = v.setting; budget = v.budget; known = v.known; keeps = keeps }
