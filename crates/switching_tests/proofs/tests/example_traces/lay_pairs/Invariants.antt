use Rattle.std.proofs.Common.{◌≡◌}
use Rattle.switching_tests.proofs.tests.example_traces.lay_pairs.Given as goal

abbrev pub invariant-loop-place : goal.invariant-loop-place
invariant-loop-place l = record {
  external : l.image.external ≡ 3;
  bridges : l.image.bridges ≡ 1;
  slots : l.image.slots ≡ 30;
  frame : l.image.frame ≡ l.fn.image.frame;
}
