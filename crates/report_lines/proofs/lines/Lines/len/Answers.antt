use Rattle.std.proofs.Common.{arith}
use Rattle.report_lines.proofs.LineLemmas.{length-lines_left}
use Rattle.report_lines.proofs.lines.Lines.len.Goals as goal

pub returns : goal.returns
returns c =
    let long = length-lines_left c.self.inside.buffers.text.items c.self.inside.buffers.records.items c.self.inside.buffers.entries.items c.self.inside.handed c.self.invariant in
    rw (← c.self.view_is) (grind (arith, long))
