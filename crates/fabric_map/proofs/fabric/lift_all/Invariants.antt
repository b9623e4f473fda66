use Rattle.std.proofs.Common.{◌≡◌, ◌≤◌, ◌+◌, ◌++◌, drop, length}
use Rattle.control_memory.specs.Layout.{Legal}
use Rattle.fabric_map.specs.Rearranging.{without_all, AreTaken, taken_by}
use Rattle.fabric_map.proofs.fabric.lift_all.Given as goal

abbrev pub invariant-loop-moved : goal.invariant-loop-moved
invariant-loop-moved l = record {
  taken : AreTaken l.paths.layout (drop l.moved-index l.moves) (taken_by l.paths.layout (drop l.moved-index l.moves));
  legal : Legal l.paths.lines l.paths.slots l.paths.layout;
  few : length l.lifted.items + length (drop l.moved-index l.moves) ≤ 34;
  lifted : l.lifted.items ++ taken_by l.paths.layout (drop l.moved-index l.moves) ≡ taken_by l.fn.paths.layout l.moves;
  layout : without_all l.paths.layout (taken_by l.paths.layout (drop l.moved-index l.moves)) ≡ without_all l.fn.paths.layout (taken_by l.fn.paths.layout l.moves);
  lines : l.paths.lines ≡ l.fn.paths.lines;
  slots : l.paths.slots ≡ l.fn.paths.slots;
}
