use Rattle.std.specs.Prelude.{ℕ, ◌<◌}
use Rattle.leg_table.specs.DueBounds.{IsNotDue}
use Rattle.leg_table.specs.LegKeys.{leg_on}
use Rattle.leg_table.proofs.due_bounds.due_from_at.Given as goal

abbrev pub invariant-loop-line : goal.invariant-loop-line
invariant-loop-line l = (line frame : ℕ) → line < l.line → frame < l.first → IsNotDue l.timers frame (leg_on l.legs line l.fn.place)
