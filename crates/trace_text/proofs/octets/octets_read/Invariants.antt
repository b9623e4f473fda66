use Rattle.std.proofs.Common.{◌≡◌, ◌%◌, length}
use Rattle.trace_text.specs.TraceFields.{octets_written}
use Rattle.trace_text.proofs.TraceOctets.{behind}
use Rattle.trace_text.proofs.octets.octets_read.Given as goal

abbrev pub invariant-loop-rest : goal.invariant-loop-rest
invariant-loop-rest l = record {
  even : length l.rest % 2 ≡ 0;
  read : behind l.octets.items (octets_written l.rest) ≡ octets_written l.fn.digits;
}

abbrev pub decreases-loop-rest : goal.decreases-loop-rest
decreases-loop-rest l = length l.rest
