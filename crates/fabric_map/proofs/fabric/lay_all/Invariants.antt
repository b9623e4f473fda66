use Rattle.std.proofs.Common.{◌≡◌, drop}
use Rattle.fabric_map.specs.Rearranging.{laid, CanLay}
use Rattle.fabric_map.proofs.fabric.lay_all.Given as goal

abbrev pub invariant-loop-i : goal.invariant-loop-i
invariant-loop-i l = record {
  room : CanLay l.paths.lines l.paths.slots l.paths.layout (drop l.i l.lifted) (drop l.i l.moves);
  layout : laid l.paths.layout (drop l.i l.lifted) (drop l.i l.moves) ≡ laid l.fn.paths.layout l.lifted l.moves;
  lines : l.paths.lines ≡ l.fn.paths.lines;
  slots : l.paths.slots ≡ l.fn.paths.slots;
}
