use Rattle.std.proofs.Common.{◌≡◌}
use Rattle.switching_tests.proofs.tests.example_traces.are_heard_as_reported.Given as goal

abbrev pub invariant-loop-frame : goal.invariant-loop-frame
invariant-loop-frame g l = record {
  external : (l.engine.external ≡ 3) × (l.image.external ≡ 3);
  bridges : (l.engine.bridges ≡ 1) × (l.image.bridges ≡ 1);
  slots : (l.engine.slots ≡ 30) × (l.image.slots ≡ 30);
  next : l.engine.next ≡ l.frame;
}
