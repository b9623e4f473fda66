use Rattle.std.proofs.Common.{◌≡◌}
use Rattle.switching_tests.proofs.tests.stages.halves.connect_all.Given as goal

abbrev pub invariant-loop-line : goal.invariant-loop-line
invariant-loop-line l = record {
  external : l.image.external ≡ l.lines;
  bridges : l.image.bridges ≡ 0;
  slots : l.image.slots ≡ 59;
}

abbrev pub invariant-loop-place : goal.invariant-loop-place
invariant-loop-place l = record {
  external : l.image.external ≡ l.lines;
  bridges : l.image.bridges ≡ 0;
  slots : l.image.slots ≡ 59;
}
