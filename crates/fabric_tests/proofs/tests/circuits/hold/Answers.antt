use Rattle.circuit_map.proofs.Starting.{bare_rows}
use Rattle.fabric_tests.proofs.tests.circuits.hold.Goals as goal

pub hold_over-requires-clause-bare : goal.hold_over-requires-clause-bare
hold_over-requires-clause-bare g c = bare_rows 90 c.in_ok-new.field-0.layout c.in_ok-new.ensures.bare
