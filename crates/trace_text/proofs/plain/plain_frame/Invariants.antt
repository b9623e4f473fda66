use Rattle.std.proofs.Common.{◌≡◌, length, replicate, None, true}
use Rattle.std.specs.List.{list_all}
use Rattle.trace_text.specs.TraceWords.{words, is_printable}
use Rattle.trace_text.specs.TraceLines.{with_parts}
use Rattle.trace_text.proofs.plain.plain_frame.Given as goal

abbrev pub invariant-loop-rest : goal.invariant-loop-rest
invariant-loop-rest l = record {
  wide : length l.input.items ≡ l.external;
  same : with_parts l.external l.input.items (words l.rest) ≡ with_parts l.external (replicate l.external None) (words l.line);
  text : list_all is_printable l.rest ≡ true → list_all is_printable l.line ≡ true;
}

abbrev pub decreases-loop-rest : goal.decreases-loop-rest
decreases-loop-rest l = length l.rest
