use Rattle.std.proofs.Common.{arith}
use Rattle.report_lines.specs.declared.lines.LineEntry.{LineEntry}
use Rattle.report_lines.proofs.LineLemmas.{before_more}
use Rattle.report_lines.proofs.lines.run_length.Goals as goal
use Rattle.report_lines.proofs.lines.run_length.Goals.{else-count-gt0-via-then-count-gt0+else-entry-below, else-count-gt0-via-else-count-gt0}

-- what is nowhere
abbrev none : LineEntry
none = record { place = 0; octets = 0; records = 0 }

pub loop-entry-preserved : goal.loop-entry-preserved
loop-entry-preserved c =
    let inv = c.loop-entry.invariant in
    record {
      counted = let n = inv.counted in omega (arith, n);
      before = elim c.else-count-gt0.branch [
        | else-count-gt0-via-then-count-gt0+else-entry-below w ↦ before_more c.args.below c.loop-entry.entry-index c.args.entries.now none c.loop-entry-test.true (λ some. w.if-entry-below.false) inv.before
        | else-count-gt0-via-else-count-gt0 w ↦ let few = w.if-count-gt0.false in let n = inv.counted in before_more c.args.below c.loop-entry.entry-index c.args.entries.now none c.loop-entry-test.true (λ some. absurd (omega (arith, few, n, some))) inv.before
      ];
    }
