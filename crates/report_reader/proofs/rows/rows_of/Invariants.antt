use Rattle.std.proofs.Common.{length}
use Rattle.report_reader.proofs.RowLemmas.{GoesOn}
use Rattle.report_reader.proofs.rows.rows_of.Given as goal

abbrev pub invariant-loop-rest : goal.invariant-loop-rest
invariant-loop-rest l = GoesOn l.fn.octets l.rows.items l.rest

abbrev pub decreases-loop-rest : goal.decreases-loop-rest
decreases-loop-rest l = length l.rest
