use Rattle.std.proofs.Common.{◌≡◌, ◌++◌, take, drop, length}
use Rattle.report_text.specs.Report.{parts, lines_sent, octet_of}
use Rattle.report_text.proofs.report.put_parts.Given as goal

abbrev pub invariant-loop-line : goal.invariant-loop-line
invariant-loop-line l = record {
  front : take (length l.fn.out.items) l.out.items ≡ l.fn.out.items;
  done : l.out.items ++ parts l.line (drop l.line (lines_sent (octet_of l.octets) (length l.octets))) ≡ l.fn.out.items ++ parts 0 (lines_sent (octet_of l.octets) (length l.octets));
}
