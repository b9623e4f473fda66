use Rattle.std.proofs.Common.{◌≡◌}
use Rattle.bench_parts.proofs.fabric.carry_to_and_fro.Given as goal

abbrev pub invariant-loop : goal.invariant-loop
invariant-loop g l = record {
  near : l.near.lines ≡ 34;
  far : l.far.lines ≡ 34;
  lines : l.highway.lines ≡ 34;
  slots : l.highway.slots ≡ 59;
  crossed_lines : l.crossed.lines ≡ 34;
  crossed_slots : l.crossed.slots ≡ 59;
}
