use Rattle.std.proofs.Common.{◌≡◌, ◌∷◌, [], length}
use Rattle.trace_text.specs.TraceWords.{words}
use Rattle.trace_text.specs.TraceLines.{with_lines}
use Rattle.trace_text.proofs.line.lines_of.Given as goal

abbrev pub invariant-loop-word : goal.invariant-loop-word
invariant-loop-word l = with_lines l.external l.lines (words l.rest) ≡ with_lines l.external [] (l.fn.word ∷ words l.others)

abbrev pub decreases-loop-word : goal.decreases-loop-word
decreases-loop-word l = length l.rest
