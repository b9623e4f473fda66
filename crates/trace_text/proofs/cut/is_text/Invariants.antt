use Rattle.std.proofs.Common.{◌≡◌, take}
use Rattle.std.specs.List.{list_all}
use Rattle.trace_text.specs.TraceWords.{is_printable}
use Rattle.trace_text.proofs.cut.is_text.Given as goal

abbrev pub invariant-loop-octet : goal.invariant-loop-octet
invariant-loop-octet l = l.all ≡ list_all is_printable (take l.octet-index l.line)
