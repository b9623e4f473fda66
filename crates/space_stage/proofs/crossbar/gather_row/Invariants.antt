use Rattle.std.proofs.Common.{◌≡◌, ℕ, ◌<◌, get_or}
use Rattle.space_stage.specs.Crossing.{gets_by}
use Rattle.space_stage.proofs.crossbar.gather_row.Given as goal

abbrev pub invariant-loop-slot : goal.invariant-loop-slot
invariant-loop-slot l = (k : ℕ) → k < l.slot → get_or l.row k 0 ≡ gets_by l.table l.highway l.line k
