use Rattle.std.proofs.Common.{◌≡◌}
use Rattle.fabric_tests.proofs.tests.full_lines.fill.Given as goal

abbrev pub invariant-loop-place : goal.invariant-loop-place
invariant-loop-place l = l.map.lines ≡ 34
