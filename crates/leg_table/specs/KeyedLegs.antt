-- The keys and bounds of a table of legs. Source: this project.
use Rattle.std.specs.Prelude.{ℕ, List, Option}
use Rattle.call_states.specs.declared.leg.Leg.{Leg}
use Rattle.call_timers.specs.declared.timers.Timers.{Timers}
use Rattle.leg_table.specs.DueBounds.{AreBoundsOf}
use Rattle.leg_table.specs.LegKeys.{AreKeysOf}

-- the legs of n lines have their keys, and each place a frame before which nothing is due there
pub record AreKeyed (lines : ℕ) (timers : Timers) (legs : List (Option Leg)) (keys bounds : List ℕ) : Type 0 where
  pub found : AreKeysOf lines legs keys
  pub due : AreBoundsOf timers legs bounds
