use Rattle.std.proofs.Common.{length}
use Rattle.trace_text.proofs.TraceProgress.{Progress}
use Rattle.trace_text.proofs.reader.read_lines.Given as goal

abbrev pub invariant-loop-rest : goal.invariant-loop-rest
invariant-loop-rest l = Progress l.fn.bytes l.rest l.number l.draft

abbrev pub decreases-loop-rest : goal.decreases-loop-rest
decreases-loop-rest l = length l.rest
