use Rattle.control_memory.specs.Image.{SameSizes as SameImageSizes}
use Rattle.circuit_map.specs.Connections.{SameSizes}
use Rattle.fabric_tests.proofs.tests.circuits.are_answered.Given as goal

-- the sizes are as they were made
abbrev pub invariant-loop-step : goal.invariant-loop-step
invariant-loop-step g l = record {
  map : SameSizes l.initial.map l.map;
  image : SameImageSizes l.initial.image l.image;
}
