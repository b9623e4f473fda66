use Rattle.std.proofs.Common.{arith}
use Rattle.report_lines.proofs.LineLemmas.{handed_marked, hands_run, left_more, marked_after, part_long, run_octets, run_records}
use Rattle.report_lines.proofs.lines.Lines.move_before.Goals as goal

pub behind-end-requires-clause-octets : goal.behind-end-requires-clause-octets
behind-end-requires-clause-octets c =
    let most = run_octets _ _ _ _ c.self.invariant _ c.entries_left-left.ensures c.run_length.result in
    let ok = c.self.inside.buffers.text.ok in
    let small = c.self.inside.buffers.text.small in
    omega (arith, most, ok.0, ok.1, small)

pub behind-end-requires-clause-records : goal.behind-end-requires-clause-records
behind-end-requires-clause-records c =
    let most = run_records _ _ _ _ c.self.invariant _ c.entries_left-left.ensures c.run_length.result in
    let ok = c.self.inside.buffers.records.ok in
    let small = c.self.inside.buffers.records.small in
    omega (arith, most, ok.0, ok.1, small)

pub between-text-requires-clause-within : goal.between-text-requires-clause-within
between-text-requires-clause-within c =
    let most = run_octets _ _ _ _ c.self.invariant _ c.entries_left-left.ensures c.run_length.result in
    let e = c.behind-end.ensures.octets in
    omega (arith, most, e)

pub between-records-requires-clause-within : goal.between-records-requires-clause-within
between-records-requires-clause-within c =
    let most = run_records _ _ _ _ c.self.invariant _ c.entries_left-left.ensures c.run_length.result in
    let e = c.behind-end.ensures.records in
    omega (arith, most, e)

pub invariant_of-to : goal.invariant_of-to
invariant_of-to c =
    let octets_most = run_octets _ _ _ _ c.self.invariant _ c.entries_left-left.ensures c.run_length.result in
    let records_most = run_records _ _ _ _ c.self.invariant _ c.entries_left-left.ensures c.run_length.result in
    let end = c.behind-end.ensures in
    let octets = end.octets in
    let records = end.records in
    let e = c.append_run.ensures in
    marked_after c.append_run.result _ _ _ _ _ c.to.invariant e.lines e.kept
    (part_long c.self.inside.buffers.text.items _ _ _ _ octets (omega (arith, octets_most, octets)) c.between-text.ensures)
    (part_long c.self.inside.buffers.records.items _ _ _ _ records (omega (arith, records_most, records)) c.between-records.ensures)

pub invariant_of-to-2 : goal.invariant_of-to-2
invariant_of-to-2 c =
    let octets_most = run_octets _ _ _ _ c.self.invariant _ c.entries_left-left.ensures c.run_length.result in
    let records_most = run_records _ _ _ _ c.self.invariant _ c.entries_left-left.ensures c.run_length.result in
    let end = c.behind-end.ensures in
    let octets = end.octets in
    let records = end.records in
    let e = c.append_run.ensures in
    marked_after c.append_run.result _ _ _ _ _ c.to.invariant e.lines e.kept
    (part_long c.self.inside.buffers.text.items _ _ _ _ octets (omega (arith, octets_most, octets)) c.between-text.ensures)
    (part_long c.self.inside.buffers.records.items _ _ _ _ records (omega (arith, records_most, records)) c.between-records.ensures)

pub invariant_of-self : goal.invariant_of-self
invariant_of-self c =
    let e = c.behind-end.ensures in
    handed_marked _ _ _ _ c.self.invariant _ c.entries_left-left.ensures c.run_length.result c.run_length.ensures.within c.behind-end.result e.lines e.octets e.records

pub returns-clause-handed : goal.returns-clause-handed
returns-clause-handed c =
    let e = c.behind-end.ensures in
    let more = c.in_ok-append_run.ensures.lines in
    rw (← c.self.view_is, ← c.to.view_is)
    (hands_run _ _ _ _ c.self.invariant _ c.entries_left-left.ensures c.run_length.result c.run_length.ensures.within c.behind-end.result e.lines e.octets e.records
    c.args.below _ _ _ _ c.between-text.ensures c.between-records.ensures c.run_length.ensures.some c.run_length.ensures.before c.run_length.ensures.stops (left_more _ _ _ _ c.to.invariant _ _ _ _ _ _ more.text_is more.records_are more.marks_are))
