use Rattle.std.proofs.Common.{◌≡◌, length, replicate, None}
use Rattle.trace_text.specs.TraceWords.{words}
use Rattle.trace_text.specs.TraceLines.{with_parts}
use Rattle.trace_text.proofs.line.frame_of.Given as goal

abbrev pub invariant-loop-word : goal.invariant-loop-word
invariant-loop-word l = record {
  wide : length l.input.items ≡ l.external;
  same : with_parts l.external l.input.items (words l.rest) ≡ with_parts l.external (replicate l.external None) (words l.line);
}

abbrev pub decreases-loop-word : goal.decreases-loop-word
decreases-loop-word l = length l.rest
