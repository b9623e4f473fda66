use Rattle.std.proofs.Common.{◌≡◌}
use Rattle.switching_tests.proofs.tests.engine.are_heard.Given as goal

abbrev pub invariant-loop-frame : goal.invariant-loop-frame
invariant-loop-frame g l = record {
  external : (l.engine.external ≡ 2) × (l.image.external ≡ 2);
  bridges : (l.engine.bridges ≡ 0) × (l.image.bridges ≡ 0);
  slots : (l.engine.slots ≡ 2) × (l.image.slots ≡ 2);
  next : l.engine.next ≡ l.frame;
}
