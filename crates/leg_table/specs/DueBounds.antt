-- The first frame in which a timer of a leg can expire, place by place. Source: this project; the timers are from ITU-T
-- Q.931 (05/98), 9.1.
use Rattle.std.specs.Prelude.{◌≡◌, ℕ, ◌<◌, ◌≤◌, List, length, Option, None, IfSome, slice_index}
use Rattle.call_states.specs.declared.leg.Leg.{Leg}
use Rattle.call_timers.specs.Expiries.{due}
use Rattle.call_timers.specs.declared.timers.Timers.{Timers}
use Rattle.leg_table.specs.LegKeys.{leg_on}

-- nothing is due in a frame of the leg, if there is one
abbrev pub IsNotDue : Timers → ℕ → Option Leg → Type 0
IsNotDue timers frame o = IfSome o (λ leg. due leg.state leg.resent leg.since frame timers ≡ None)

-- nothing is due at the leg of a place of any line
abbrev pub NoneDue : Timers → List (Option Leg) → ℕ → ℕ → Type 0
NoneDue timers legs place frame = (line : ℕ) → IsNotDue timers frame (leg_on legs line place)

-- before the frame that is recorded for a place nothing is due there
pub record AreBoundsOf (timers : Timers) (legs : List (Option Leg)) (bounds : List ℕ) : Type 0 where
  pub places : length bounds ≡ 30
  pub each : (place frame : ℕ) → place < 30 → frame < slice_index bounds place → NoneDue timers legs place frame

-- the same bounds, or lower ones
abbrev pub AreLower : List ℕ → List ℕ → Type 0
AreLower bounds lower = (place : ℕ) → place < 30 → slice_index lower place ≤ slice_index bounds place
