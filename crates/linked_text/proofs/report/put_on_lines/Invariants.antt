use Rattle.std.proofs.Common.{◌≡◌, ◌++◌, take, drop, length}
use Rattle.linked_text.specs.LinkReport.{on_lines}
use Rattle.linked_text.proofs.report.put_on_lines.Given as goal

abbrev pub invariant-loop-line : goal.invariant-loop-line
invariant-loop-line l = record {
  front : take (length l.fn.out.items) l.out.items ≡ l.fn.out.items;
  done : l.out.items ++ on_lines (drop l.line-index l.lines) l.rest ≡ l.fn.out.items ++ on_lines l.lines l.sent;
}
