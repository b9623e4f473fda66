use Rattle.std.proofs.Common.{◌≡◌, ◌-◌, length}
use Rattle.link_table.specs.Steps.{marked}
use Rattle.link_table.proofs.table.mark.Given as goal

abbrev pub invariant-loop-lines : goal.invariant-loop-lines
invariant-loop-lines l = marked l.line l.lines.items l.frames ≡ marked l.line l.fn.lines.items l.frames

abbrev pub decreases-loop-lines : goal.decreases-loop-lines
decreases-loop-lines l = length l.frames - length l.lines.items
