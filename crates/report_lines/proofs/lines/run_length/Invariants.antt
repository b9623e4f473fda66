use Rattle.std.proofs.Common.{◌≡◌, take, drop}
use Rattle.report_lines.specs.Entries.{AreBefore}
use Rattle.report_lines.proofs.lines.run_length.Given as goal

abbrev pub invariant-loop-entry : goal.invariant-loop-entry
invariant-loop-entry l = record {
  counted : l.count ≡ l.entry-index;
  before : AreBefore l.below (drop 1 (take l.entry-index l.entries));
}
