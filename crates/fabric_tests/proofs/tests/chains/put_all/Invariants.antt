use Rattle.std.proofs.Common.{◌≡◌}
use Rattle.fabric_tests.proofs.tests.chains.put_all.Given as goal

abbrev pub invariant-loop-row : goal.invariant-loop-row
invariant-loop-row g l = record {
  sizes : (l.matrix.lines ≡ 3) × (l.matrix.slots ≡ 2);
}
