use Rattle.std.proofs.Common.{◌≡◌, ◌∷◌, [], ◌++◌, refl, arith}
use Rattle.trace_text.proofs.TraceHolds.{holds_event}
use Rattle.trace_text.proofs.HeadingLemmas.{event_read, event_refused}
use Rattle.trace_text.proofs.draft.Draft.push_event.Goals as goal

pub returns-clause-read : goal.returns-clause-read
returns-clause-read c = λ line read told h.
    let d = c.args.self.now in
    let pushed : c.push.new.self.items ≡ d.events.items ++ c.args.event ∷ [] = grind arith in
    let counted = event_read _ d.heading c.count_event.new.self line c.args.event c.for_trace.ensures read c.in_default.ensures.few c.in_default.ensures.counted in
    holds_event d told h line c.count_event.new.self _ c.args.event counted refl pushed refl refl refl

pub returns-in-Err-clause-refused : goal.returns-in-Err-clause-refused
returns-in-Err-clause-refused c = λ line read.
    event_refused _ c.args.self.now.heading line c.args.event c.in-Err.why c.for_trace.ensures read c.in-Err.ensures.refused.0 c.in-Err.ensures.refused.1
