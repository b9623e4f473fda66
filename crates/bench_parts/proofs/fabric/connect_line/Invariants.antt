use Rattle.std.proofs.Common.{◌≡◌}
use Rattle.bench_parts.proofs.fabric.connect_line.Given as goal

abbrev pub invariant-loop-place : goal.invariant-loop-place
invariant-loop-place l = record {
  external : l.image.external ≡ 30;
  bridges : l.image.bridges ≡ 4;
  slots : l.image.slots ≡ 59;
}
