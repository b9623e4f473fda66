-- Line hunting: a number is routed to a list of lines. Source: this project.
use Rattle.std.specs.Prelude.{◌≡◌, ◌≢◌, ℕ, true, List, [], ◌∷◌, ◌++◌, All, Contains, Option, Some, None}
use Rattle.circuit_model.specs.declared.channel.Slot.{Slot}
use Rattle.number_plan.specs.declared.target.Found.{Found}
use Rattle.number_plan.specs.declared.target.Found.TheVariants.{Line, Lines}
use Rattle.call_profile.specs.IdleSlots.{idle, lowest_called}
use Rattle.call_profile.specs.World.{World}

-- the lines of a target, in the order in which they are tried
abbrev pub lines_of : Found → Option (List ℕ)
lines_of (Line line) = Some (line ∷ [])
lines_of (Lines lines) = Some lines
lines_of _ = None

-- a line has no idle slot other than this one, or its data link is down
abbrev pub IsFull : World → Slot → ℕ → Type 0
IsFull w x line = lowest_called w x line ≡ None

-- the slot is the lowest idle slot of its line, whose data link is up, and each line before it in the list is full
pub record IsFirstIdle (w : World) (x : Slot) (lines : List ℕ) (y : Slot) : Type 0 where
  pub before : List ℕ
  pub after : List ℕ
  pub listed : lines ≡ before ++ y.line ∷ after
  pub full : All (IsFull w x) before
  pub lowest : lowest_called w x y.line ≡ Some y

-- the slot is idle, is not the caller's, and is on a line of the list
pub record IsIdleOnOne (w : World) (x : Slot) (lines : List ℕ) (y : Slot) : Type 0 where
  pub free : idle w y ≡ true
  pub apart : y ≢ x
  pub on : Contains lines y.line
