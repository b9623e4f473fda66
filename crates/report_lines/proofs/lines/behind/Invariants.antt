use Rattle.std.proofs.Common.{◌≡◌, ◌+◌, length, drop}
use Rattle.report_lines.specs.Entries.{octets_in, records_in}
use Rattle.report_lines.proofs.lines.behind.Given as goal

abbrev pub invariant-loop-entry : goal.invariant-loop-entry
invariant-loop-entry l = record {
  lines : l.end.lines + length (drop l.entry-index l.entries) ≡ l.fn.front.lines + length l.entries;
  octets : l.end.octets + octets_in (drop l.entry-index l.entries) ≡ l.fn.front.octets + octets_in l.entries;
  calls : l.end.records + records_in (drop l.entry-index l.entries) ≡ l.fn.front.records + records_in l.entries;
}
