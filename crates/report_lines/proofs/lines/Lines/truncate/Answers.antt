use Rattle.std.proofs.Common.{arith, ◌≤◌, length}
use Rattle.report_lines.proofs.LineLemmas.{cut_left, cut_marked, lines_left_kept_all, run_octets, run_records}
use Rattle.report_lines.proofs.lines.Lines.truncate.Goals as goal

pub returns-then-count-left : goal.returns-then-count-left
returns-then-count-left c = rw (← c.self.view_is) (lines_left_kept_all _ _ _ _ c.self.invariant _ c.entries_left-left.ensures c.args.count c.if-count-left.true)

pub behind-end-requires-clause-octets : goal.behind-end-requires-clause-octets
behind-end-requires-clause-octets c =
    let most = run_octets _ _ _ _ c.self.invariant _ c.entries_left-left.ensures c.args.count in
    let ok = c.self.inside.buffers.text.ok in
    let small = c.self.inside.buffers.text.small in
    omega (arith, most, ok.0, ok.1, small)

pub behind-end-requires-clause-records : goal.behind-end-requires-clause-records
behind-end-requires-clause-records c =
    let most = run_records _ _ _ _ c.self.invariant _ c.entries_left-left.ensures c.args.count in
    let ok = c.self.inside.buffers.records.ok in
    let small = c.self.inside.buffers.records.small in
    omega (arith, most, ok.0, ok.1, small)

pub invariant_of-self : goal.invariant_of-self
invariant_of-self c =
    let e = c.behind-end.ensures in
    let within : c.args.count ≤ length c.entries_left-left.result.now = let few = c.if-count-left.false in omega (arith, few) in
    rw (c.truncate.ensures.items, c.truncate-2.ensures.items, c.truncate-3.ensures.items)
    (cut_marked _ _ _ _ c.self.invariant _ c.entries_left-left.ensures c.args.count within c.behind-end.result e.lines e.octets e.records)

pub returns : goal.returns
returns c =
    let e = c.behind-end.ensures in
    let within : c.args.count ≤ length c.entries_left-left.result.now = let few = c.if-count-left.false in omega (arith, few) in
    rw (c.truncate.ensures.items, c.truncate-2.ensures.items, c.truncate-3.ensures.items, ← c.self.view_is)
    (cut_left _ _ _ _ c.self.invariant _ c.entries_left-left.ensures c.args.count within c.behind-end.result e.lines e.octets e.records)
