use Rattle.std.proofs.Common.{◌≡◌}
use Rattle.switching_tests.proofs.tests.example_traces.are_sent_as_reported.Given as goal

abbrev pub invariant-loop-frame : goal.invariant-loop-frame
invariant-loop-frame g l = record {
  image : (l.image.external ≡ 3) × (l.image.bridges ≡ 1) × (l.image.slots ≡ 30);
  lines : (l.stages.kept.external ≡ 3) × (l.stages.kept.bridges ≡ 1);
  slots : l.stages.kept.slots ≡ 30;
  memories : (l.stages.speech.lines ≡ 4) × (l.stages.read.lines ≡ 4);
  highway : (l.stages.highway.lines ≡ 4) × (l.stages.highway.slots ≡ 30);
  crossed : (l.stages.crossed.lines ≡ 4) × (l.stages.crossed.slots ≡ 30);
}
