use Rattle.std.proofs.Common.{◌≡◌, ℕ, List, ◌∷◌, [], ◌++◌, refl, arith}
use Rattle.trace_text.specs.declared.heading.Happening.{Happening}
use Rattle.trace_text.specs.declared.limits.Limits.{Limits}
use Rattle.trace_text.specs.TraceHeading.{IsLineRead}
use Rattle.trace_text.specs.TraceLines.{SoFar, trace_limits}
use Rattle.trace_text.proofs.TraceHolds.{holds_nothing, holds_event, holds_end, holds_change}
use Rattle.trace_text.proofs.draft.Draft.read_rare_line.Goals as goal

-- a line that was read, by what happened
happened : (limits : Limits) (before after : SoFar) (line : List ℕ) (given is : Happening) → limits ≡ trace_limits → given ≡ is → IsLineRead limits before line given after → IsLineRead trace_limits before line is after
happened limits before after line given is same e read = rw (← e, ← same) read

pub returns-in-Nothing-clause-read : goal.returns-in-Nothing-clause-read
returns-in-Nothing-clause-read c = λ told h. holds_nothing c.args.self.now told h c.args.line.now c.read_line.new.self (happened _ _ _ _ _ _ c.for_trace.ensures c.in-Nothing.is c.in_ok-read_line.ensures.read)

pub returns-in_ok-push-in-Event-clause-read : goal.returns-in_ok-push-in-Event-clause-read
returns-in_ok-push-in-Event-clause-read c = λ told h.
    let d = c.args.self.now in
    let pushed : c.push.new.self.items ≡ d.events.items ++ c.in-Event.event ∷ [] = grind arith in
    holds_event d told h c.args.line.now c.read_line.new.self _ c.in-Event.event (happened _ _ _ _ _ _ c.for_trace.ensures c.in-Event.is c.in_ok-read_line.ensures.read) refl pushed refl refl refl

pub returns-in_ok-end_segment-in-SegmentEnd-clause-read : goal.returns-in_ok-end_segment-in-SegmentEnd-clause-read
returns-in_ok-end_segment-in-SegmentEnd-clause-read c = λ told h.
    holds_end c.args.self.now told h c.args.line.now c.read_line.new.self _ (happened _ _ _ _ _ _ c.for_trace.ensures c.in-SegmentEnd.is c.in_ok-read_line.ensures.read) c.in_ok-end_segment-in-SegmentEnd.ensures

pub returns-in_ok-push-in-Change-clause-read : goal.returns-in_ok-push-in-Change-clause-read
returns-in_ok-push-in-Change-clause-read c = λ told h.
    let e = c.end_segment-in-Change.new.self in
    let pushed : c.push-in-Change.new.self.items ≡ e.changes.items ++ e.begun ∷ [] = grind arith in
    holds_change c.args.self.now told h c.args.line.now c.read_line.new.self e _ (happened _ _ _ _ _ _ c.for_trace.ensures c.in-Change.is c.in_ok-read_line.ensures.read) c.in_ok-end_segment-in-Change.ensures refl refl refl refl pushed
