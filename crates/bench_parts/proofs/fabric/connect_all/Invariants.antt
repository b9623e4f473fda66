use Rattle.std.proofs.Common.{◌≡◌}
use Rattle.bench_parts.proofs.fabric.connect_all.Given as goal

abbrev pub invariant-loop-line : goal.invariant-loop-line
invariant-loop-line l = record {
  external : l.image.external ≡ 30;
  bridges : l.image.bridges ≡ 4;
  slots : l.image.slots ≡ 59;
}
