use Rattle.std.proofs.Common.{◌≡◌, ◌-◌, length}
use Rattle.report_reader.specs.Reading.{rows_before}
use Rattle.report_reader.proofs.rows.fill_before.Given as goal

abbrev pub invariant-loop-rows : goal.invariant-loop-rows
invariant-loop-rows l = rows_before l.line l.rows.items ≡ rows_before l.line l.fn.rows.items

abbrev pub decreases-loop-rows : goal.decreases-loop-rows
decreases-loop-rows l = l.line - length l.rows.items
