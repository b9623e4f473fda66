use Rattle.std.proofs.Common.{arith, [], ◌∷◌}
use Rattle.call_processor.specs.Keeping.{placed}
use Rattle.report_lines.specs.Lines.{line_of}
use Rattle.report_lines.specs.Entries.{entry_of}
use Rattle.report_lines.proofs.LineLemmas.{left_after, marked_after, one_line}
use Rattle.report_lines.proofs.lines.Lines.push.Goals as goal

pub invariant_of-self : goal.invariant_of-self
invariant_of-self c =
    let e = c.append_event.ensures in
    let l = line_of c.args.listing (placed c.args.place c.args.event c.args.response c.args.outbox.now c.args.octets.now) in
    marked_after c.append_event.result l.text l.records (entry_of l ∷ []) _ _ c.self.invariant e.line e.kept (omega arith) (omega arith)

pub returns-clause-line : goal.returns-clause-line
returns-clause-line c =
    let e = c.append_event.ensures in
    let l = line_of c.args.listing (placed c.args.place c.args.event c.args.response c.args.outbox.now c.args.octets.now) in
    rw (← c.self.view_is, ← one_line l) (left_after c.append_event.result l.text l.records (entry_of l ∷ []) _ _ c.self.invariant e.line)
