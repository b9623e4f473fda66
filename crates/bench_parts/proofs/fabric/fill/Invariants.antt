use Rattle.std.proofs.Common.{◌≡◌}
use Rattle.bench_parts.proofs.fabric.fill.Given as goal

abbrev pub invariant-loop-line : goal.invariant-loop-line
invariant-loop-line l = l.buffer.lines ≡ 34
