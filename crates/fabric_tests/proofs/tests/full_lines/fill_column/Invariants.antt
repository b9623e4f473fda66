use Rattle.std.proofs.Common.{◌≡◌}
use Rattle.fabric_tests.proofs.tests.full_lines.fill_column.Given as goal

abbrev pub invariant-loop-line : goal.invariant-loop-line
invariant-loop-line l = l.map.lines ≡ 34
