use Rattle.std.proofs.Common.{length}
use Rattle.report_reader.proofs.ReportLemmas.{HasRead}
use Rattle.report_reader.proofs.report.read_lines.Given as goal

abbrev pub invariant-loop-rest : goal.invariant-loop-rest
invariant-loop-rest l = HasRead l.fn.bytes l.answers.items l.rest

abbrev pub decreases-loop-rest : goal.decreases-loop-rest
decreases-loop-rest l = length l.rest
