use Rattle.std.proofs.Common.{rules, ◌≡◌, Ok}
use Rattle.trace_text.specs.declared.said.Said.TheVariants as Said
use Rattle.trace_text.specs.TraceLines.{reads}
use Rattle.trace_text.proofs.HeadingLemmas.{line_read}
use Rattle.trace_text.proofs.heading.Heading.read_line.Goals as goal

pub returns-then-is_sync-clause-read : goal.returns-then-is_sync-clause-read
returns-then-is_sync-clause-read c =
    line_read c.args.limits c.args.self.now _ c.args.line.now _ c.take.result (c.is_sync.ensures c.if-is_sync.true) tt
    c.take.ensures.taken c.take.ensures.happens c.take.ensures.joins

pub returns-in-Some-clause-read : goal.returns-in-Some-clause-read
returns-in-Some-clause-read c =
    let read : reads c.args.self.now c.args.line.now ≡ Ok (Said.Happens c.in-Some.event) = search rules in
    line_read c.args.limits c.args.self.now _ c.args.line.now _ c.take-in-Some.result read tt
    c.take-in-Some.ensures.taken c.take-in-Some.ensures.happens c.take-in-Some.ensures.joins

pub returns-then-is_change-clause-read : goal.returns-then-is_change-clause-read
returns-then-is_change-clause-read c =
    line_read c.args.limits c.args.self.now _ c.args.line.now _ c.take-then-is_change.result (c.is_change.ensures c.if-is_change.true) tt
    c.take-then-is_change.ensures.taken c.take-then-is_change.ensures.happens c.take-then-is_change.ensures.joins
