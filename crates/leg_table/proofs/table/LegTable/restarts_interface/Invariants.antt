use Rattle.call_profile.specs.Legs.{awaits_restart}
use Rattle.call_profile.specs.LinkChanges.{is_held}
use Rattle.leg_table.proofs.LineScanLemmas.{SoFar}
use Rattle.leg_table.proofs.table.LegTable.restarts_interface.Given as goal

abbrev pub invariant-loop-place : goal.invariant-loop-place
invariant-loop-place l = SoFar (awaits_restart l.self) l.line l.place l.awaited × SoFar (is_held l.self) l.line l.place l.held
